-- The registers as a descriptor holds them (`struct elf_prstatus` with words of 32 bits): the
-- signal at 12, at 24 `pr_pid`, which is the thread's own number, and from 72 on the program
-- counter and x1 to x31.
use Rattle.std.specs.Prelude.{◌≡◌, ℕ, ◌<◌, List, slice_index}
use Rattle.rept_elf.specs.Header.{half_at}
use Rattle.rept_dump.specs.Registers.{pid_of, saved_pc, saved_register}
use Rattle.rept_dump.specs.declared.status.Status.{Status}

pub record IsStatus (desc : List ℕ) (status : Status) : Type 0 where
  pub signal : status.signal ≡ half_at desc 12
  pub pid : status.pid ≡ pid_of desc
  pub pc : status.pc ≡ saved_pc desc
  pub zero : slice_index status.regs 0 ≡ 0
  pub regs : (i : ℕ) → 0 < i → i < 32 → slice_index status.regs i ≡ saved_register desc i
