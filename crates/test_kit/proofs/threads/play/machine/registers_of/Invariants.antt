use Rattle.std.proofs.Common.{◌≡◌, ℕ, ◌<◌, length, slice_index}
use Rattle.rept_machine.specs.Machine.{state_of}
use Rattle.test_kit.proofs.threads.play.machine.registers_of.Given as goal

abbrev pub invariant-loop-r : goal.invariant-loop-r
invariant-loop-r l = record {
  size : length l.registers ≡ 32;
  saved : (k : ℕ) → k < l.r → slice_index l.registers k ≡ (state_of l.machine).register k;
}
