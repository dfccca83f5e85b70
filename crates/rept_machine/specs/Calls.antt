-- Which bytes a system call may change (Linux on 32-bit RISC-V: the numbers of
-- asm-generic/unistd.h, the arguments of syscall(2) and of each call's page in section 2 of the
-- manual). The number comes in x17 (a7), the arguments in x10 to x15 (a0 to a5), the answer in x10.
-- The calls are the rows of one table of data, `CALLS`; here stands what a row means. A call
-- without a row may change every byte.
use Rattle.std.specs.Prelude.{◌≡◌, ℕ, ◌+◌, ◌*◌, ◌^◌, ◌==◌, nat_lt, nat_le, min, Bool, true, false, ◌&&◌, ◌||◌, if◌then◌else◌, List, [], ◌∷◌, Option, Some, None}
use Rattle.rept_machine.specs.declared.calls.ByteCount.{ByteCount}
use Rattle.rept_machine.specs.declared.calls.ByteCount.TheVariants.{Fixed, Register, Pages, Records}
use Rattle.rept_machine.specs.declared.calls.CallEffect.{CallEffect}
use Rattle.rept_machine.specs.declared.calls.CallEffect.TheVariants.{Area, Read, Heap, Mapping}
use Rattle.rept_machine.specs.declared.calls.CallRow.{CallRow}
use Rattle.rept_machine.specs.declared.calls.TheConstants.{CALLS}

-- So many bytes from base on. A range that passes the end of the address space counts as every
-- byte.
abbrev pub within : ℕ → ℕ → ℕ → Bool
within base size a = if size == 0 then false else if nat_le (base + size) (2 ^ 32) then nat_le base a && nat_lt a (base + size) else true

-- whether an answer is an error, -4095 to -1
abbrev pub is_error : ℕ → Bool
is_error answer = nat_le (2 ^ 32) (answer + 4095)

-- the answer EFAULT, -14: an address that can't be written, found when some bytes may have been
abbrev pub bad_address : ℕ
bad_address = 4294967282

-- how many bytes by the registers of a call; more than there are addresses where they are too many
abbrev pub counted : (ℕ → ℕ) → ByteCount → ℕ
counted register (Fixed bytes) = bytes
counted register (Register r) = register r
counted register (Pages r) = register r + 4095
counted register (Records r bytes most) = if nat_le (register r) most then register r * bytes else 2 ^ 33

-- what a read may have brought, by its answer
abbrev pub was_read : ℕ → ℕ → ℕ → ℕ → Bool
was_read base most answer a = if answer == bad_address then within base most a else if is_error answer then false else within base (min most answer) a

-- Of a call with these registers and this answer, whether a part of what it may change has the byte
-- at a. The image's end is where the program's own memory ends and the heap begins. brk isn't
-- rounded to pages: the bytes from the image's end up to the answer may change, the answer not
-- included. Linux rounds (mm/mmap.c, PAGE_ALIGN): it maps whole pages, and so clears the last one
-- to its end, past the answer. What stands there differs from this table only where brk gave that
-- page back before and now takes it again in part. That a program doesn't do so in what is traced
-- is a premise. Where the answer is a multiple of 4096, rounding makes no difference.
abbrev pub effect_has : ℕ → (ℕ → ℕ) → ℕ → CallEffect → ℕ → Bool
effect_has image_end register answer (Area base count) a = within (register base) (counted register count) a
effect_has image_end register answer (Read base most) a = was_read (register base) (register most) answer a
effect_has image_end register answer Heap a = nat_le image_end a && nat_lt a answer
effect_has image_end register answer (Mapping length) a = if is_error answer then false else within answer (register length + 4095) a

abbrev pub part_has : ℕ → (ℕ → ℕ) → ℕ → Option CallEffect → ℕ → Bool
part_has image_end register answer None a = false
part_has image_end register answer (Some effect) a = effect_has image_end register answer effect a

-- the row of a number
abbrev pub call_of : List CallRow → ℕ → Option CallRow
call_of [] number = None
call_of (row ∷ rows) number = if row.number == number then Some row else call_of rows number

-- whether a call of a row, or of none, may change the byte at a
abbrev pub row_has : ℕ → (ℕ → ℕ) → ℕ → Option CallRow → ℕ → Bool
row_has image_end register answer None a = true
row_has image_end register answer (Some row) a = part_has image_end register answer row.first a || part_has image_end register answer row.second a

-- whether the byte at a may change in the call whose registers before it and whose answer these are
abbrev pub may_change : ℕ → (ℕ → ℕ) → ℕ → ℕ → Bool
may_change image_end register answer a = row_has image_end register answer (call_of CALLS (register 17)) a

abbrev pub MayChange : ℕ → (ℕ → ℕ) → ℕ → ℕ → Type 0
MayChange image_end register answer a = may_change image_end register answer a ≡ true
