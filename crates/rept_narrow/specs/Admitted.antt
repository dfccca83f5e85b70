-- Which executions of a path are admitted: those that end in the dump and keep premises that no
-- instruction tells. Each premise is a field with a name. Where none applies, every execution is
-- admitted. This project's own.
use Rattle.std.specs.Prelude.{◌≡◌, ℕ, ◌<◌, ◌≤◌, ◌+◌, ◌*◌, ◌/◌, ◌%◌, ◌==◌, ◌&&◌, ◌||◌, if◌then◌else◌, nat_le, nat_lt, not, bit_and, Bool, true, false, List, Option, Some, None, slice_get}
use Rattle.rept_isa.specs.declared.instr.Instr.{Instr}
use Rattle.rept_isa.specs.declared.instr.Instr.TheVariants.{Ecall}
use Rattle.rept_isa.specs.declared.row.StepRow.{StepRow}
use Rattle.rept_machine.specs.declared.calls.CallRow.{CallRow}
use Rattle.rept_machine.specs.declared.calls.TheConstants.{CALLS}
use Rattle.rept_machine.specs.Calls.{call_of, is_error}
use Rattle.rept_machine.specs.Execution.{Execution}
use Rattle.rept_machine.specs.State.{State}
use Rattle.rept_machine.specs.Writes.{WritesBy}

-- what the premises speak of, as the files tell it
pub record Premises : Type 0 where
  -- a byte of the program or of a mapped file that is mapped without leave to write
  pub is_read_only : ℕ → Bool
  -- a byte at the first point, where the path begins with the program's first instruction
  pub first_byte : ℕ → Option ℕ
  -- the number of the process, where it has one thread
  pub process : Option ℕ
  -- the lowest address of the area that has the stack
  pub stack_from : Option ℕ
  -- where that begins, if the path begins with the program's first instruction
  pub clear_from : Option ℕ

-- a path, and what its executions have to keep
pub record Story : Type 0 where
  -- where the program's own memory ends
  pub image_end : ℕ
  pub rows : List StepRow
  -- the registers and bytes that the dump tells
  pub registers : ℕ → Option ℕ
  pub dump : ℕ → Option ℕ
  pub premises : Premises

abbrev pub RowWrites : Story → (ℕ → State) → ℕ → StepRow → ℕ → Type 0
RowWrites story run i row a = WritesBy row.instr story.image_end (run i) (run (i + 1)) a

abbrev pub is_listed : Option CallRow → Bool
is_listed None = false
is_listed (Some row) = true

-- Calls that may take pages away or change what may be done with them, by number and flags (Linux:
-- munmap 215, mremap 216, mprotect 226, and mmap2 222 with MAP_FIXED, 16, in x13).
abbrev pub changes_pages : ℕ → ℕ → Bool
changes_pages number flags = number == 215 || (number == 216 || (number == 226 || (number == 222 && not (bit_and flags 16 == 0))))

-- a listed call that leaves each page's protection as it is
abbrev pub leaves_pages : ℕ → ℕ → Bool
leaves_pages number flags = is_listed (call_of CALLS number) && not (changes_pages number flags)

-- each call from a row on leaves each page's protection as it is
abbrev pub IsSettled : Story → (ℕ → State) → ℕ → Type 0
IsSettled story run i = (j : ℕ) (call : StepRow) → i ≤ j → slice_get story.rows j ≡ Some call → call.instr ≡ Ecall → leaves_pages ((run j).register 17) ((run j).register 13) ≡ true

abbrev pub is_below : Option ℕ → ℕ → Bool
is_below None v = true
is_below (Some limit) v = nat_lt v limit

abbrev pub is_same : Option ℕ → ℕ → Bool
is_same None v = true
is_same (Some w) v = v == w

-- What a call answers, by its number and third argument (Linux, section 2 of the manual): brk 214
-- where the heap ends, mmap2 222 the address of pages or an error, read 63 and write 64 no more
-- than they were asked for or an error, getpid 172 and gettid 178 the process. The heap lies between
-- the program's own memory and the stack's area, and mapped pages lie above the first.
abbrev pub answer_fits : Premises → (image_end number most answer : ℕ) → Bool
answer_fits premises image_end number most answer =
    if number == 214 then nat_le image_end answer && is_below premises.stack_from answer
    else if number == 222 then is_error answer || (answer % 4096 == 0 && nat_le image_end answer)
    else if number == 63 || number == 64 then is_error answer || nat_le answer most
    else if number == 172 || number == 178 then is_same premises.process answer
    else true

-- a row is a call of this number
pub record IsCallAt (story : Story) (run : ℕ → State) (i number : ℕ) : Type 0 where
  pub row : StepRow
  pub at : slice_get story.rows i ≡ Some row
  pub call : row.instr ≡ Ecall
  pub number_is : (run i).register 17 ≡ number

-- no row from one to before another is a call of this number
abbrev pub HasNoCall : Story → (ℕ → State) → (number i j : ℕ) → Type 0
HasNoCall story run number i j = (k : ℕ) → i ≤ k → k < j → IsCallAt story run k number → ⊥

-- the first address of a page that isn't below an address (Linux: PAGE_ALIGN, of 4,096 bytes)
abbrev pub page_from : ℕ → ℕ
page_from a = (a + 4095) / 4096 * 4096

-- mmap2's flags name pages of no file (Linux: MAP_ANONYMOUS, 32)
abbrev pub is_anonymous : ℕ → Bool
is_anonymous flags = not (bit_and flags 32 == 0)

-- The bytes that calls hand out are 0 after them: of brk 214 those of the pages from where the heap
-- ended by the call of brk before, up to where it ends now; of mmap2 222 without a file those that
-- were asked for, by the length in x11 (Linux: brk(2), mmap(2)).
pub record AreFresh (story : Story) (run : ℕ → State) : Type 0 where
  pub heap : (i j a : ℕ) → i < j → IsCallAt story run i 214 → HasNoCall story run 214 (i + 1) j → IsCallAt story run j 214 → page_from ((run (i + 1)).register 10) ≤ a → a < (run (j + 1)).register 10 → (run (j + 1)).memory a ≡ 0
  pub mapped : (j a : ℕ) → IsCallAt story run j 222 → is_anonymous ((run j).register 13) ≡ true → is_error ((run (j + 1)).register 10) ≡ false → (run (j + 1)).register 10 ≤ a → a < (run (j + 1)).register 10 + (run j).register 11 → (run (j + 1)).memory a ≡ 0

pub record IsAdmitted (story : Story) (run : ℕ → State) : Type 0 where
  pub execution : Execution story.image_end story.rows story.registers story.dump run
  -- `read-only`: of rows after the last call that may change a page's protection
  pub read_only : (i a : ℕ) (row : StepRow) → slice_get story.rows i ≡ Some row → RowWrites story run i row a → story.premises.is_read_only a ≡ true → IsSettled story run i → ⊥
  -- `answers`
  pub answers : (i : ℕ) (row : StepRow) → slice_get story.rows i ≡ Some row → row.instr ≡ Ecall → answer_fits story.premises story.image_end ((run i).register 17) ((run i).register 12) ((run (i + 1)).register 10) ≡ true
  -- `first-memory`
  pub first_memory : (a v : ℕ) → story.premises.first_byte a ≡ Some v → (run 0).memory a ≡ v
  -- `first-memory`, of the stack: the bytes of its area that are below the stack pointer are 0
  pub first_stack : (from a : ℕ) → story.premises.clear_from ≡ Some from → from ≤ a → a < (run 0).register 2 → (run 0).memory a ≡ 0
  -- `fresh-pages`
  pub fresh_pages : AreFresh story run
