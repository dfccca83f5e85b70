use Rattle.std.proofs.Common.{◌≡◌, ℕ, length}
use Rattle.rept_machine.specs.State.{State}
use Rattle.rept_narrow.specs.Admitted.{Story}
use Rattle.rept_narrow.specs.Rules.{HasSets}
use Rattle.rept_relate.specs.Holding.{AreCallsWithin}
use Rattle.rept_infer.proofs.relating.list_calls.Given as goal

abbrev pub invariant-loop-i : goal.invariant-loop-i
invariant-loop-i l = record {
  count : length l.calls.items ≡ l.i;
  within : (story : Story) (run : ℕ → State) → story.rows ≡ l.rows → story.image_end ≡ l.path.image_end → HasSets story l.table run → AreCallsWithin story.image_end l.rows l.calls.items run;
}
