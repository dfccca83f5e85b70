use Rattle.std.proofs.Common.{◌≡◌, ◌<◌, ℕ, Some, length, slice_get}
use Rattle.rept_writing.specs.declared.passes.pass.Pass.{Pass}
use Rattle.rept_writing.specs.declared.passes.pass.Pass.TheVariants.{Never}
use Rattle.rept_writing.proofs.passes.pass.forget.Given as goal

abbrev pub invariant-loop-i : goal.invariant-loop-i
invariant-loop-i l = record {
  long : length l.list ≡ length l.fn.list;
  count : l.count ≡ length l.fn.list;
  never : (j : ℕ) (x : Pass) → j < l.i → slice_get l.list j ≡ Some x → x ≡ Never;
}
