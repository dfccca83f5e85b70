use Rattle.std.proofs.Common.{◌≡◌, ℕ, ◌-◌}
use Rattle.rept_machine.specs.State.{State}
use Rattle.rept_narrow.specs.Admitted.{Story, IsSettled}
use Rattle.rept_narrow.specs.Rules.{HasSets}
use Rattle.rept_infer.proofs.calls.settled_from.Given as goal

abbrev pub invariant-loop-back : goal.invariant-loop-back
invariant-loop-back l = (story : Story) (run : ℕ → State) → story.rows ≡ l.rows → HasSets story l.table run → IsSettled story run (l.table.points - 1 - l.back)
