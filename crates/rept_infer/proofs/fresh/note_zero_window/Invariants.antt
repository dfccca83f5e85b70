use Rattle.std.proofs.Common.{◌≡◌, ℕ}
use Rattle.rept_machine.specs.State.{State}
use Rattle.rept_narrow.specs.Lanes.{IsTrueSweep}
use Rattle.rept_infer.specs.Fresh.{AreZero}
use Rattle.rept_narrow.specs.Sweeps.{memory_of}
use Rattle.rept_infer.proofs.fresh.note_zero_window.Given as goal

abbrev pub invariant-loop-k : goal.invariant-loop-k
invariant-loop-k l = record {
  point : l.sweep.point ≡ l.fn.sweep.point;
  holds : (run : ℕ → State) → AreZero run l.fn.sweep.point l.zero.from l.zero.to → IsTrueSweep (memory_of run) l.fn.sweep → IsTrueSweep (memory_of run) l.sweep;
}
