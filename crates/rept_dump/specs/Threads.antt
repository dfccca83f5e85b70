-- The threads of a core file as their register notes say. This project's own.
use Rattle.std.specs.Prelude.{◌≡◌, ℕ, ◌≤◌, List, length, slice_get, Some}
use Rattle.rept_elf.specs.Segments.{ElfSegment}
use Rattle.rept_dump.specs.Registers.{status_size, HaveThreads}

-- each of the descriptors has all registers
abbrev pub AllLong : List (List ℕ) → Type 0
AllLong descs = (i : ℕ) (desc : List ℕ) → slice_get descs i ≡ Some desc → status_size ≤ length desc

-- the descriptors of so many threads, the first of which is this one
pub record AreThreadNotes (size : ℕ) (ss : List ElfSegment) (first : List ℕ) (count : ℕ) : Type 0 where
  pub descs : List (List ℕ)
  pub have : HaveThreads size ss descs
  pub first_is : slice_get descs 0 ≡ Some first
  pub counted : length descs ≡ count
  pub long : AllLong descs
