use Rattle.std.proofs.Common.{◌≡◌, ℕ, length}
use Rattle.rept_machine.specs.State.{State}
use Rattle.rept_relate.specs.Classes.Valuations.{IsValued}
use Rattle.rept_relate.specs.Numbering.{value_in, IsWalk}
use Rattle.rept_relate.specs.Relations.{AreResults, AreBelow}
use Rattle.rept_relate.specs.Holding.{AreHeld, AreNodesBelow, AreCallsWithin}
use Rattle.rept_relate.proofs.passes.relate_rows.Given as goal

abbrev pub invariant-loop-i : goal.invariant-loop-i
invariant-loop-i l = record {
  len : length l.classes ≡ length l.fn.classes;
  below : AreBelow l.operations (length l.fn.classes);
  valued : (image_end : ℕ) (run : ℕ → State) → IsWalk image_end l.rows run → AreCallsWithin image_end l.rows l.path.calls.now run → IsValued l.fn.classes (value_in l.rows run) → IsValued l.classes (value_in l.rows run);
  nodes : AreNodesBelow l.words.slots.items (length l.fn.classes);
  held : (image_end : ℕ) (run : ℕ → State) → IsWalk image_end l.rows run → AreCallsWithin image_end l.rows l.path.calls.now run → IsValued l.fn.classes (value_in l.rows run) → AreHeld l.words.slots.items (value_in l.rows run) (run l.i);
  results : (image_end : ℕ) (run : ℕ → State) → IsWalk image_end l.rows run → AreCallsWithin image_end l.rows l.path.calls.now run → IsValued l.fn.classes (value_in l.rows run) → AreResults l.operations (value_in l.rows run);
}
