use Rattle.std.proofs.Common.{◌≡◌, ℕ, ◌+◌, ◌*◌, ◌<◌, ◌≤◌, length, get_or}
use Rattle.rept_elf.specs.Header.{word_at}
use Rattle.rept_dump.proofs.status.read_status.Given as goal

-- the registers so far
abbrev pub invariant-loop-i : goal.invariant-loop-i
invariant-loop-i l = record {
  in_range : 1 ≤ l.i;
  all : length l.regs ≡ 32;
  zero : get_or l.regs 0 0 ≡ 0;
  read : (k : ℕ) → 0 < k → k < l.i → get_or l.regs k 0 ≡ word_at l.desc (72 + 4 * k);
}
