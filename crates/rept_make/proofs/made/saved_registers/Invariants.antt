use Rattle.std.proofs.Common.{◌≡◌, ℕ, ◌<◌, length, slice_index}
use Rattle.rept_machine.specs.Machine.{state_of, pc_of}
use Rattle.rept_make.proofs.made.saved_registers.Given as goal

abbrev pub invariant-loop-r : goal.invariant-loop-r
invariant-loop-r l = record {
  size : length l.saved ≡ 32;
  pc : slice_index l.saved 0 ≡ pc_of l.machine;
  saved : (k : ℕ) → 0 < k → k < l.r → slice_index l.saved k ≡ (state_of l.machine).register k;
}
