-- Neighbouring addresses at which a search among segments answers alike, so that it need not be
-- made again. This project's own.
use Rattle.std.specs.Prelude.{◌≡◌, ◌≤◌, ◌<◌, ℕ, List, Option, Bool, ◌&&◌}
use Rattle.std.specs.List.{find}
use Rattle.std.specs.Option.{option_map}
use Rattle.rept_elf.specs.Segments.{ElfSegment}
use Rattle.rept_elf.specs.Image.{segment_of}
use Rattle.rept_dump.specs.Memory.{allows, holds}
use Rattle.rept_dump.specs.declared.search.Allowed.{Allowed}
use Rattle.rept_dump.specs.declared.search.Allowed.TheVariants.{All, ReadOnly, Executable}
use Rattle.rept_dump.specs.declared.stretch.SegmentStretch.{SegmentStretch}

-- what is looked for: so many bytes in an allowed one of these segments
pub record Sought : Type 0 where
  pub allowed : Allowed
  pub count : ℕ
  pub segments : List ElfSegment

-- a segment that may be the answer at an address
abbrev pub fits : Sought → ℕ → ElfSegment → Bool
fits sought a s = allows sought.allowed s && holds a sought.count s

-- the answer at an address: the first segment that has all the bytes from there on
abbrev pub found_at : Sought → ℕ → Option ElfSegment
found_at sought a = find (fits sought a) sought.segments

-- at each address of the stretch the answer is the segment that it names, or none where it names
-- none
abbrev pub AnswersAlike : Sought → SegmentStretch → Type 0
AnswersAlike sought stretch = (a : ℕ) → stretch.from ≤ a → a < stretch.to → found_at sought a ≡ option_map segment_of stretch.segment

-- a word of code
abbrev pub sought_code : List ElfSegment → Sought
sought_code exe = record { allowed = Executable; count = 4; segments = exe }

-- a half of code
abbrev pub sought_half : List ElfSegment → Sought
sought_half exe = record { allowed = Executable; count = 2; segments = exe }

-- a byte that a core file saved
abbrev pub sought_saved : List ElfSegment → Sought
sought_saved core = record { allowed = All; count = 1; segments = core }

-- a byte of the executable that the program could not write
abbrev pub sought_kept : List ElfSegment → Sought
sought_kept exe = record { allowed = ReadOnly; count = 1; segments = exe }
