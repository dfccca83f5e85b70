use Rattle.std.proofs.Common.{◌≡◌, ◌*◌, ◌-◌, ◌/◌, ◌==◌, length}
use Rattle.std.specs.List.{find, range_with_len}
use Rattle.rept_elf.specs.Header.{word_at}
use Rattle.rept_stub.specs.CrashFiles.{entry_of}
use Rattle.rept_stub.proofs.loading.entry_of.Given as goal

-- the entries that are left decide
abbrev pub invariant-loop-i : goal.invariant-loop-i
invariant-loop-i l = entry_of l.kind l.vector ≡ find (λ k. word_at l.vector (8 * k) == l.kind) (range_with_len l.i (length l.vector / 8 - l.i))
