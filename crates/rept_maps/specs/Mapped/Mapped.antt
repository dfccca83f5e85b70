-- What the mapped files of a process hold at an address: an entry maps its addresses, one after the
-- other, from its offset in the file on (mmap(2)). Where several entries have an address, or
-- several segments an offset, the first one in table order counts (the project's own).
use Rattle.std.specs.Prelude.{ℕ, ◌+◌, ◌-◌, ◌%◌, ◌^◌, List, [], ◌∷◌, length, drop, slice_index, Bool, ◌&&◌, not, nat_le, nat_lt, Option, None, Some, if◌then◌else◌}
use Rattle.std.specs.List.{find}
use Rattle.std.specs.Option.{option_map, option_and_then}
use Rattle.rept_elf.specs.Header.{half_at, word_at}
use Rattle.rept_elf.specs.Image.{file_of}
use Rattle.rept_elf.specs.Segments.{ElfSegment, segments, is_load, is_writable, is_executable}
use Rattle.rept_elf.specs.Symbols.{FunctionSymbol, symbol_at}
use Rattle.rept_elf.specs.declared.image.Image.{Image}
use Rattle.rept_maps.specs.FileMap.{MapEntry, entry_at}
use Rattle.rept_maps.specs.declared.mapped.find.NumberBounds.{NumberBounds}

-- a mapped part of a file: its addresses, from start to before end, its offset in the file in
-- bytes, and the file's bytes where its image is there
pub record Mapping : Type 0 where
  pub start : ℕ
  pub end : ℕ
  pub offset : ℕ
  pub file : Option (List ℕ)

-- the mapping of an entry whose image is in this place
abbrev pub mapping_by : MapEntry → Option Image → Mapping
mapping_by e image = record { start = e.start; end = e.end; offset = e.offset; file = option_map file_of image }

-- those of the entries of a file note from an index on, with their places
abbrev pub mappings_from : List ℕ → ℕ → List (Option Image) → List Mapping
mappings_from desc i [] = []
mappings_from desc i (image ∷ images) = mapping_by (entry_at desc i) image ∷ mappings_from desc (i + 1) images

-- the mappings of a file note, in table order
abbrev pub mappings : List ℕ → List (Option Image) → List Mapping
mappings desc images = mappings_from desc 0 images

-- some of so many numbers from one on are in the bounds, or all
abbrev pub has_some : ℕ → ℕ → NumberBounds → Bool
has_some count a b = nat_lt b.from b.to && (nat_lt b.from (a + count) && nat_lt a b.to)

abbrev pub has_all : ℕ → ℕ → NumberBounds → Bool
has_all count a b = nat_le b.from a && nat_le (a + count) b.to

-- the first one whose bounds have some of so many numbers from one on, if they have all
abbrev pub only_with : {X : Type 0} → (X → NumberBounds) → ℕ → ℕ → List X → Option X
only_with bounds count a xs = option_and_then (λ x. if has_all count a (bounds x) then Some x else None) (find (λ x. has_some count a (bounds x)) xs)

-- the addresses of a mapping
abbrev pub addresses : Mapping → NumberBounds
addresses m = record { from = m.start; to = m.end }

-- the offsets of the bytes that the file has of a segment, which is part of memory; no other
-- segment has any
abbrev pub offsets : ElfSegment → NumberBounds
offsets s = record { from = s.offset; to = if is_load s then s.offset + length s.body else s.offset }

-- where some bytes stand: in a segment of a file, at a place among the segment's bytes
pub record FileSpot : Type 0 where
  pub file : List ℕ
  pub segment : ElfSegment
  pub place : ℕ

-- so many bytes of a file from an offset on, in one segment
abbrev pub spot_in : List ℕ → ℕ → ℕ → Option FileSpot
spot_in file count offset = option_map (λ s. record { file = file; segment = s; place = offset - s.offset }) (only_with offsets count offset (segments file))

-- those of the file of a mapping, from an address on
abbrev pub spot_of : ℕ → ℕ → Mapping → Option FileSpot
spot_of count a m = option_and_then (λ file. spot_in file count (m.offset + (a - m.start))) m.file

-- where so many bytes from an address on stand: in one segment of the file of one mapping
abbrev pub spot_at : List Mapping → ℕ → ℕ → Option FileSpot
spot_at ms count a = option_and_then (spot_of count a) (only_with addresses count a ms)

-- the segment's bytes from there on
abbrev pub bytes_there : FileSpot → List ℕ
bytes_there p = drop p.place p.segment.body

-- a number that is read there, where the segment may be looked at
abbrev pub read_at : (ElfSegment → Bool) → (List ℕ → ℕ) → FileSpot → Option ℕ
read_at allowed read p = if allowed p.segment then Some (read (bytes_there p)) else None

-- the word of code at an address, the low byte first: four bytes of one entry and of one segment,
-- which is executable
abbrev pub mapped_word : List Mapping → ℕ → Option ℕ
mapped_word ms a = option_and_then (read_at is_executable (λ bytes. word_at bytes 0)) (spot_at ms 4 a)

-- the half of code at an address: two such bytes
abbrev pub mapped_half : List Mapping → ℕ → Option ℕ
mapped_half ms a = option_and_then (read_at is_executable (λ bytes. half_at bytes 0)) (spot_at ms 2 a)

-- the byte at an address that the program could not write: that of its segment, which is not
-- writable
abbrev pub mapped_byte : List Mapping → ℕ → Option ℕ
mapped_byte ms a = option_and_then (read_at (λ s. not (is_writable s)) (λ bytes. slice_index bytes 0)) (spot_at ms 1 a)

-- the address that a file gives to a byte of it
abbrev pub own_address : FileSpot → ℕ
own_address p = (p.segment.vaddr + p.place) % 2 ^ 32

-- a function of the file, as it stands in memory where an address of the file stands at another one
abbrev pub moved : ℕ → ℕ → FunctionSymbol → FunctionSymbol
moved own a s = record { name = s.name; value = (s.value + (a + (2 ^ 32 - own)) % 2 ^ 32) % 2 ^ 32 }

-- the function that has an address, in memory
abbrev pub mapped_symbol : List Mapping → ℕ → Option FunctionSymbol
mapped_symbol ms a = option_and_then (λ p. option_map (moved (own_address p) a) (symbol_at p.file (own_address p))) (spot_at ms 1 a)
