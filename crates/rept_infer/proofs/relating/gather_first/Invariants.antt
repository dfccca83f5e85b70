use Rattle.std.proofs.Common.{◌≡◌, ℕ, length}
use Rattle.rept_machine.specs.State.{State}
use Rattle.rept_narrow.specs.Admitted.{Story}
use Rattle.rept_narrow.specs.Rules.{HasSets}
use Rattle.rept_relate.specs.Classes.Valuations.{IsValued}
use Rattle.rept_relate.specs.Numbering.{value_in}
use Rattle.rept_infer.proofs.relating.gather_first.Given as goal

abbrev pub invariant-loop-r : goal.invariant-loop-r
invariant-loop-r l = record {
  len : length l.classes ≡ l.r;
  valued : (story : Story) (run : ℕ → State) → HasSets story l.table run → IsValued l.classes (value_in story.rows run);
}
