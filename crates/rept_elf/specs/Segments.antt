-- The segments of a file, as its program headers list them: TIS ELF 1.2, book I, "Program Header".
use Rattle.std.specs.Prelude.{ℕ, zero, suc, ◌+◌, max, List, [], ◌∷◌, take, drop, Bool, ◌==◌, not, bit_and, if◌then◌else◌}
use Rattle.rept_elf.specs.Header.{word_at, entry_offset, e_phnum}

-- a segment: the fields of its program header, and the bytes that the file has of it
pub record ElfSegment : Type 0 where
  pub kind : ℕ
  pub offset : ℕ
  pub vaddr : ℕ
  pub memsz : ℕ
  pub filesz : ℕ
  pub flags : ℕ
  pub body : List ℕ

-- the first size bytes from an offset on, as far as the file has them
abbrev pub part_of : List ℕ → ℕ → ℕ → List ℕ
part_of file offset size = take size (drop offset file)

-- the segment whose program header stands at an offset of the file
abbrev pub segment_from : List ℕ → ℕ → ElfSegment
segment_from file entry = record {
  kind = word_at file entry;
  offset = word_at file (entry + 4);
  vaddr = word_at file (entry + 8);
  memsz = word_at file (entry + 20);
  filesz = word_at file (entry + 16);
  flags = word_at file (entry + 24);
  body = part_of file (word_at file (entry + 4)) (word_at file (entry + 16));
}

-- so many segments from an index on
abbrev pub segments_from : List ℕ → ℕ → ℕ → List ElfSegment
segments_from file index zero = []
segments_from file index (suc count) = segment_from file (entry_offset file index) ∷ segments_from file (index + 1) count

-- the segments in table order
abbrev pub segments : List ℕ → List ElfSegment
segments file = segments_from file 0 (e_phnum file)

-- `PT_LOAD`: the segment is part of memory
abbrev pub is_load : ElfSegment → Bool
is_load s = s.kind == 1

-- `PT_NOTE`: the segment holds notes
abbrev pub is_note : ElfSegment → Bool
is_note s = s.kind == 4

-- `PF_X`
abbrev pub is_executable : ElfSegment → Bool
is_executable s = not (bit_and s.flags 1 == 0)

-- `PF_W`
abbrev pub is_writable : ElfSegment → Bool
is_writable s = not (bit_and s.flags 2 == 0)

-- the greatest end of a segment that is part of memory, 0 without one
abbrev pub greatest_end : List ElfSegment → ℕ
greatest_end [] = 0
greatest_end (s ∷ ss) = if is_load s then max (s.vaddr + s.memsz) (greatest_end ss) else greatest_end ss
