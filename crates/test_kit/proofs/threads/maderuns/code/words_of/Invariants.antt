use Rattle.std.proofs.Common.{◌≡◌, ℕ, ◌<◌, ◌^◌, ◌/◌, ◌%◌, length, slice_index}
use Rattle.rept_isa.specs.Words.{IsWord}
use Rattle.test_kit.specs.Threads.Play.Code.{instr_in}
use Rattle.test_kit.proofs.threads.maderuns.code.words_of.Given as goal

abbrev pub invariant-loop-i : goal.invariant-loop-i
invariant-loop-i l = record {
  size : length l.words.items ≡ l.i;
  small : (j : ℕ) → j < l.i → slice_index l.words.items j < 2 ^ 32;
  spell : (j : ℕ) → j < l.i → IsWord (slice_index l.words.items j) (instr_in l.code (j / 16) (j % 16));
}
