use Rattle.std.proofs.Common.{◌≡◌, ℕ}
use Rattle.rept_machine.specs.State.{State}
use Rattle.rept_narrow.specs.Admitted.{Story}
use Rattle.rept_narrow.specs.Sweeps.{IsAround, IsFollowed}
use Rattle.rept_infer.proofs.passing.all_on.Given as goal

abbrev pub invariant-loop-index : goal.invariant-loop-index
invariant-loop-index g l = record {
  points : l.table.points ≡ l.fn.table.points;
  point : l.sweep.point ≡ l.index;
  keeps : (story : Story) (run : ℕ → State) → story.rows ≡ l.earlier.rows.now → IsAround story run (g.K.KnownPath.byte l.earlier.known.now) l.earlier.lanes.now l.earlier.image_end → IsFollowed story run l.fn.table l.fn.sweep → IsFollowed story run l.table l.sweep;
}
