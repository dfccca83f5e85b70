use Rattle.std.proofs.Common.{◌≡◌, ◌<◌, ◌/◌, ◌%◌, ℕ, length, Some, slice_get}
use Rattle.rept_narrow.proofs.table.known_sets.Given as goal

abbrev pub invariant-loop-k : goal.invariant-loop-k
invariant-loop-k g l = record {
  count : length l.v.items ≡ l.k;
  known : (k : ℕ) → k < l.k → slice_get l.v.items k ≡ Some (g.K.KnownPath.set l.known (k / 32) (k % 32));
}
