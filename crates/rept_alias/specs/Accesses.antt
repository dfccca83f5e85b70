-- Which addresses a load or store may touch (RISC-V unprivileged manual 20191213, chapter 2.6: the
-- address is the base and the sign-extended immediate, modulo 2 ^ 32, and the bytes follow each
-- other), where the base is one of a range. Sets of addresses by a first and a last one are this
-- project's own.
use Rattle.std.specs.Prelude.{ℕ, ◌+◌, ◌-◌, ◌%◌, ◌^◌, ◌≤◌, nat_le, ◌==◌, Bool, true, false, ◌||◌, ◌&&◌, if◌then◌else◌, ℤ, pos, ◌+ℤ◌, int_lt, Option, Some, None, not}
use Rattle.rept_isa.specs.Numbers.{plus, beside}
use Rattle.rept_partial.specs.declared.range.Range.{Range}
use Rattle.rept_alias.specs.declared.addresses.Access.{Access}
use Rattle.rept_alias.specs.declared.addresses.CallAccess.{CallAccess}

-- how many steps lead upwards from one address to another, past the end of the address space if
-- need be
abbrev pub distance : ℕ → ℕ → ℕ
distance from to = (to + (2 ^ 32 - from)) % 2 ^ 32

-- whether the address is one of an access: no farther from its first one than the last one is
abbrev pub hits : Access → ℕ → Bool
hits access a = access.all || nat_le (distance access.lo a) (distance access.lo access.hi)

abbrev pub hits_part : Option Access → ℕ → Bool
hits_part None a = false
hits_part (Some access) a = hits access a

-- whether it is in one of the parts
abbrev pub call_hits : CallAccess → ℕ → Bool
call_hits access a = hits_part access.first a || hits_part access.second a

-- the addresses from one to another
abbrev pub between : ℕ → ℕ → Access
between lo hi = record { all = false; lo = lo; hi = hi }

abbrev pub everywhere : Access
everywhere = record { all = true; lo = 0; hi = 4294967295 }

-- whether, as whole numbers, the first byte of the lowest base is at or above 0, and the last byte
-- of the highest one is below 2 ^ 32
abbrev pub stays_inside : Range → ℤ → ℕ → Bool
stays_inside base imm last = not (int_lt (pos base.lo +ℤ imm) (pos 0)) && int_lt (pos base.hi +ℤ imm +ℤ pos last) (pos (2 ^ 32))

-- the addresses of an access of so many bytes at an offset from a base in a range
abbrev pub access_of : Range → ℤ → ℕ → Access
access_of base imm width = if base.lo == base.hi || stays_inside base imm (width - 1) then between (plus base.lo imm) (beside (plus base.hi imm) (width - 1)) else everywhere

-- each value of the one range is in the other
abbrev pub IsRangeWithin : Range → Range → Type 0
IsRangeWithin narrow wide = (wide.lo ≤ narrow.lo) × (narrow.hi ≤ wide.hi)
