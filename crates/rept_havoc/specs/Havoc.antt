-- The bytes that a system call may change, where ranges are known of its arguments and of its
-- answer. What one call changes, with its sources, is told in rept_machine's `Calls`; this is the
-- same table over ranges, this project's own.
use Rattle.std.specs.Prelude.{◌≡◌, ℕ, ◌+◌, ◌-◌, ◌*◌, ◌^◌, ◌≤◌, nat_le, nat_lt, min, ◌==◌, ◌&&◌, ◌||◌, if◌then◌else◌, Option, Some, None, List, slice_index_or, ⊤}
use Rattle.rept_partial.specs.declared.range.Range.{Range}
use Rattle.rept_partial.specs.declared.flat.Flat.{Flat}
use Rattle.rept_partial.specs.declared.flat.Flat.TheVariants.{Unknown, Known}
use Rattle.rept_partial.specs.Ranges.{from_to}
use Rattle.rept_alias.specs.declared.addresses.Access.{Access}
use Rattle.rept_alias.specs.declared.addresses.CallAccess.{CallAccess}
use Rattle.rept_alias.specs.Accesses.{between, everywhere}
use Rattle.rept_machine.specs.declared.calls.ByteCount.{ByteCount}
use Rattle.rept_machine.specs.declared.calls.ByteCount.TheVariants.{Fixed, Register, Pages, Records}
use Rattle.rept_machine.specs.declared.calls.CallEffect.{CallEffect}
use Rattle.rept_machine.specs.declared.calls.CallEffect.TheVariants.{Area, Read, Heap, Mapping}
use Rattle.rept_machine.specs.declared.calls.CallRow.{CallRow}
use Rattle.rept_machine.specs.declared.calls.TheConstants.{CALLS}
use Rattle.rept_machine.specs.Calls.{is_error, bad_address, call_of}

abbrev pub every_byte : CallAccess
every_byte = record { first = Some everywhere; second = None }

-- So many bytes from a base in a range on: from the lowest base up to the last byte of the highest
-- one. None where there are none. Where the highest one passes the end of the address space, every
-- byte.
abbrev pub interval : Range → ℕ → Option Access
interval base size = if size == 0 then None else if nat_le (base.hi + size) (2 ^ 32) then Some (between base.lo (base.hi + size - 1)) else Some everywhere

-- brk: from the image's end up to the highest answer, which isn't included
abbrev pub grown : ℕ → Range → Option Access
grown image_end answered = if nat_lt image_end answered.hi then Some (between image_end (answered.hi - 1)) else None

-- mmap2: whole pages from the answer on; none where each answer is an error
abbrev pub mapped : Range → Range → Option Access
mapped answered size = if is_error answered.lo then None else interval answered (size.hi + 4095)

-- A read, over the ranges of its address, of the most bytes and of its answer: no more than the
-- answer says where that is no error, none where it is an error other than EFAULT, else the most.
abbrev pub was_read_over : Range → Range → Range → Option Access
was_read_over base most answered =
    if nat_lt (answered.hi + 4095) (2 ^ 32) then interval base (min most.hi answered.hi)
    else if is_error answered.lo && (nat_lt bad_address answered.lo || nat_lt answered.hi bad_address) then None
    else interval base most.hi

-- the most bytes, over the ranges of argument registers
abbrev pub counted_over : (ℕ → Range) → ByteCount → ℕ
counted_over x (Fixed bytes) = bytes
counted_over x (Register r) = (x r).hi
counted_over x (Pages r) = (x r).hi + 4095
counted_over x (Records r bytes most) = if nat_le (x r).hi most then (x r).hi * bytes else 2 ^ 33

-- A part of what a call may change. `x r` is the range of argument register x10 to x15.
abbrev pub effect_over : ℕ → (ℕ → Range) → Range → CallEffect → Option Access
effect_over image_end x answered (Area base count) = interval (x base) (counted_over x count)
effect_over image_end x answered (Read base most) = was_read_over (x base) (x most) answered
effect_over image_end x answered Heap = grown image_end answered
effect_over image_end x answered (Mapping length) = mapped answered (x length)

abbrev pub part_over : ℕ → (ℕ → Range) → Range → Option CallEffect → Option Access
part_over image_end x answered None = None
part_over image_end x answered (Some effect) = effect_over image_end x answered effect

-- a call of a row, or of none
abbrev pub row_over : ℕ → (ℕ → Range) → Range → Option CallRow → CallAccess
row_over image_end x answered None = every_byte
row_over image_end x answered (Some row) = record { first = part_over image_end x answered row.first; second = part_over image_end x answered row.second }

-- the call of this number
abbrev pub changed_by : ℕ → (ℕ → Range) → Range → ℕ → CallAccess
changed_by number x answered image_end = row_over image_end x answered (call_of CALLS number)

-- a call of a known or an unknown number
abbrev pub changed : Flat → (ℕ → Range) → Range → ℕ → CallAccess
changed Unknown x answered image_end = every_byte
changed (Known number) x answered image_end = changed_by number x answered image_end

-- the range of an argument register, x10 to x15, in a list that begins with that of x10
abbrev pub argument : List Range → ℕ → Range
argument args r = slice_index_or args (r - 10) (from_to 0 4294967295)

-- the value is one of the range
abbrev pub Lies : ℕ → Range → Type 0
Lies v range = (range.lo ≤ v) × (v ≤ range.hi)

-- the range has this value alone
abbrev pub IsExact : Range → ℕ → Type 0
IsExact range v = (range.lo ≡ v) × (range.hi ≡ v)

-- each argument is in its range
abbrev pub MeetsArguments : (ℕ → Range) → (ℕ → ℕ) → Type 0
MeetsArguments x register = (r : ℕ) → 10 ≤ r → r ≤ 15 → Lies (register r) (x r)

-- each argument is known
abbrev pub AreExact : (ℕ → Range) → (ℕ → ℕ) → Type 0
AreExact x register = (r : ℕ) → 10 ≤ r → r ≤ 15 → IsExact (x r) (register r)

-- the number may be this one
abbrev pub IsNumber : Flat → ℕ → Type 0
IsNumber Unknown v = ⊤
IsNumber (Known w) v = v ≡ w

-- each value of the one range is in the other
abbrev pub RangeWithin : Range → Range → Type 0
RangeWithin narrow wide = (wide.lo ≤ narrow.lo) × (narrow.hi ≤ wide.hi)

abbrev pub AreArgumentsWithin : (ℕ → Range) → (ℕ → Range) → Type 0
AreArgumentsWithin x wide = (r : ℕ) → 10 ≤ r → r ≤ 15 → RangeWithin (x r) (wide r)

-- what is known of the number in the wider one is known in the other too
abbrev pub NumberWithin : Flat → Flat → Type 0
NumberWithin narrow Unknown = ⊤
NumberWithin Unknown (Known w) = ⊥
NumberWithin (Known v) (Known w) = v ≡ w
