use Rattle.std.proofs.Common.{◌≡◌, ℕ, ◌<◌, ◌/◌, ◌%◌, length, slice_index_or}
use Rattle.rept_isa.specs.declared.instr.Instr.TheVariants.{Fence}
use Rattle.rept_isa.specs.Range.{InRange}
use Rattle.test_kit.specs.Threads.Play.Shares.{UsesOwn}
use Rattle.test_kit.specs.Threads.Play.Drawn.{made_instr}
use Rattle.test_kit.proofs.threads.play.score.made_code.Given as goal

abbrev pub invariant-loop-i : goal.invariant-loop-i
invariant-loop-i l = record {
  size : length l.code.items ≡ l.i;
  drawn : (j : ℕ) → j < l.i → slice_index_or l.code.items j Fence ≡ made_instr l.seed (j / 15) (j % 15);
  uses : (j : ℕ) → j < l.i → UsesOwn (j / 15) (slice_index_or l.code.items j Fence);
  range : (j : ℕ) → j < l.i → InRange (slice_index_or l.code.items j Fence);
}
