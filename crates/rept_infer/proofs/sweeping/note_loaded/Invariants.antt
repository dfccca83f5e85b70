use Rattle.std.proofs.Common.{◌≡◌, ℕ, Some, slice_get}
use Rattle.rept_machine.specs.State.{State}
use Rattle.rept_narrow.specs.Lanes.{IsTrueSweep}
use Rattle.rept_narrow.specs.Admitted.{Story}
use Rattle.rept_narrow.specs.Rules.{HasSets}
use Rattle.rept_narrow.specs.Sweeps.{memory_of}
use Rattle.rept_infer.proofs.sweeping.note_loaded.Given as goal

abbrev pub invariant-loop-k : goal.invariant-loop-k
invariant-loop-k l = record {
  point : l.sweep.point ≡ l.fn.sweep.point;
  holds : (story : Story) (run : ℕ → State) → slice_get story.rows l.index ≡ Some l.row → HasSets story l.table run → IsTrueSweep (memory_of run) l.fn.sweep → IsTrueSweep (memory_of run) l.sweep;
}
