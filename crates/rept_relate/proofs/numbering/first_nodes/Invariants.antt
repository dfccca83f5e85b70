use Rattle.std.proofs.Common.{◌≡◌, ℕ, ◌<◌, length, Some, slice_get}
use Rattle.rept_relate.proofs.numbering.first_nodes.Given as goal

abbrev pub invariant-loop-r : goal.invariant-loop-r
invariant-loop-r l = record {
  count : length l.nodes.items ≡ l.r;
  places : (k : ℕ) → k < l.r → slice_get l.nodes.items k ≡ Some k;
}
