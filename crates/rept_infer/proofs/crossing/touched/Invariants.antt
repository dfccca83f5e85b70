use Rattle.std.proofs.Common.{◌≡◌, ◌<◌, ℕ, true, Some, slice_get}
use Rattle.rept_alias.specs.Accesses.{call_hits}
use Rattle.rept_narrow.specs.declared.lanes.held.Held.{Held}
use Rattle.rept_narrow.specs.Lanes.{IsListed}
use Rattle.rept_infer.proofs.crossing.touched.Given as goal

abbrev pub invariant-loop-number : goal.invariant-loop-number
invariant-loop-number l = (j a : ℕ) (h : Held) → j < l.number → slice_get l.held j ≡ Some (a, h) → call_hits l.access a ≡ true → IsListed l.list.items a
