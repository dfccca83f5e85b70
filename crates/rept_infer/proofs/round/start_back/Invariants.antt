use Rattle.std.proofs.Common.{◌≡◌, ◌≤◌, ℕ, length}
use Rattle.rept_machine.specs.State.{State}
use Rattle.rept_narrow.specs.Lanes.{IsTrueSweep}
use Rattle.rept_narrow.specs.Admitted.{Story}
use Rattle.rept_narrow.specs.Sweeps.{IsAround, memory_of}
use Rattle.rept_infer.proofs.round.start_back.Given as goal

abbrev pub invariant-loop-index : goal.invariant-loop-index
invariant-loop-index g l = record {
  point : l.sweep.point ≡ l.fn.sweep.point;
  holds : (story : Story) (run : ℕ → State) → l.fn.sweep.point ≤ length story.rows → IsAround story run (g.K.KnownPath.byte l.earlier.known.now) l.earlier.lanes.now l.earlier.image_end → IsTrueSweep (memory_of run) l.fn.sweep → IsTrueSweep (memory_of run) l.sweep;
}
