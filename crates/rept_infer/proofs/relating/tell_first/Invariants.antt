use Rattle.std.proofs.Common.{◌≡◌, ℕ, length}
use Rattle.rept_machine.specs.State.{State}
use Rattle.rept_narrow.specs.Admitted.{Story}
use Rattle.rept_narrow.specs.Rules.{HasSets, KeepsSets}
use Rattle.rept_relate.specs.Classes.Valuations.{IsValued, HaveSameWords}
use Rattle.rept_relate.specs.Numbering.{value_in}
use Rattle.rept_infer.proofs.relating.tell_first.Given as goal

abbrev pub invariant-loop-r : goal.invariant-loop-r
invariant-loop-r l = record {
  len : length l.classes ≡ length l.fn.classes;
  same : HaveSameWords l.fn.classes l.classes;
  points : l.table.points ≡ l.fn.table.points;
  narrower : (story : Story) → KeepsSets story l.table l.fn.table;
  keeps : (story : Story) (run : ℕ → State) → HasSets story l.fn.table run → IsValued l.fn.classes (value_in story.rows run) → HasSets story l.table run;
}
