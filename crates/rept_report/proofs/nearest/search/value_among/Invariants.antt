use Rattle.std.proofs.Common.{◌≡◌, ◌<◌, ◌≤◌, ℕ, Some, None, length, slice_get}
use Rattle.rept_report.proofs.nearest.search.value_among.Given as goal

abbrev pub invariant-loop-k : goal.invariant-loop-k
invariant-loop-k g l = record {
  none : (j m : ℕ) → l.start ≤ j → j < l.k → slice_get l.reach.list j ≡ Some m → (g.N.Net.links l.net).value m ≡ None;
  end : l.end ≡ length l.reach.list;
}
