use Rattle.std.proofs.Common.{◌≡◌, ℕ}
use Rattle.rept_machine.specs.State.{State}
use Rattle.rept_narrow.specs.Lanes.{IsTrueSweep}
use Rattle.rept_narrow.specs.Admitted.{Story}
use Rattle.rept_narrow.specs.Rules.{HasSets}
use Rattle.rept_narrow.specs.Sweeps.{memory_of}
use Rattle.rept_infer.proofs.first.start_on.Given as goal

abbrev pub invariant-loop-index : goal.invariant-loop-index
invariant-loop-index g l = record {
  point : l.sweep.point ≡ l.fn.sweep.point;
  holds : (story : Story) (run : ℕ → State) → story.premises ≡ g.P.PathPremises.premises l.premises → HasSets story l.table run → IsTrueSweep (memory_of run) l.fn.sweep → IsTrueSweep (memory_of run) l.sweep;
}
