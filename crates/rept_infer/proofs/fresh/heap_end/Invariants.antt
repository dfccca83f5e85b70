use Rattle.std.proofs.Common.{◌≡◌, ℕ, ◌-◌}
use Rattle.rept_machine.specs.State.{State}
use Rattle.rept_narrow.specs.Admitted.{Story, HasNoCall}
use Rattle.rept_narrow.specs.Rules.{HasSets}
use Rattle.rept_infer.proofs.fresh.heap_end.Given as goal

abbrev pub invariant-loop-back : goal.invariant-loop-back
invariant-loop-back l = (story : Story) (run : ℕ → State) → story.rows ≡ l.rows → HasSets story l.table run → HasNoCall story run 214 (l.index - l.back) l.index
