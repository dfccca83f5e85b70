use Rattle.std.proofs.Common.{◌≡◌, ◌≤◌, ℕ, length}
use Rattle.rept_machine.specs.State.{State}
use Rattle.rept_narrow.specs.Lanes.{IsTrueSweep}
use Rattle.rept_narrow.specs.Admitted.{Story}
use Rattle.rept_narrow.specs.Sweeps.{IsAround, memory_of}
use Rattle.rept_infer.proofs.sweeping.note_named.Given as goal

abbrev pub invariant-loop-k : goal.invariant-loop-k
invariant-loop-k g l = record {
  point : l.sweep.point ≡ l.fn.sweep.point;
  holds : (story : Story) (run : ℕ → State) → l.fn.sweep.point ≤ length story.rows → IsAround story run (g.K.KnownPath.byte l.around.known.now) l.around.lanes.now l.around.image_end → IsTrueSweep (memory_of run) l.fn.sweep → IsTrueSweep (memory_of run) l.sweep;
}
