use Rattle.std.proofs.Common.{◌≡◌, ℕ, ◌+◌, ◌<◌, length, Some, slice_get}
use Rattle.rept_relate.specs.Numbering.{node_at, AreNumbered}
use Rattle.rept_relate.proofs.numbering.number.Given as goal

abbrev pub invariant-loop-i : goal.invariant-loop-i
invariant-loop-i l = record {
  file : length l.nodes.items ≡ 32;
  nodes : (r : ℕ) → r < 32 → slice_get l.nodes.items r ≡ Some (node_at l.rows l.i r);
  below : (s x : ℕ) → slice_get l.nodes.items s ≡ Some x → x < 32 + l.i;
  count : length l.operands.items ≡ l.i;
  numbered : AreNumbered l.rows l.operands.items;
}
