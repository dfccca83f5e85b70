-- The notes of a core file: System V ABI, chapter 5, "Note Section". A note is the size of its
-- name, the size of its descriptor and its type, of 32 bits each, then the name and the descriptor,
-- each padded to a multiple of 4 bytes.
use Rattle.std.specs.Prelude.{◌≡◌, ℕ, ◌+◌, ◌*◌, ◌/◌, ◌<◌, ◌≤◌, ◌⊎◌, List, [], ◌∷◌, ◌++◌, length, drop}
use Rattle.std.specs.List.{filter}
use Rattle.rept_elf.specs.Header.{word_at}
use Rattle.rept_elf.specs.Segments.{ElfSegment, part_of, is_note}

-- a note, with the offset of its header in the file
pub record Note : Type 0 where
  pub offset : ℕ
  pub kind : ℕ
  pub name : List ℕ
  pub desc : List ℕ

-- the sizes and the type, in bytes
abbrev pub note_header : ℕ
note_header = 12

-- the next multiple of 4
abbrev pub padded : ℕ → ℕ
padded size = (size + 3) / 4 * 4

abbrev pub name_size : List ℕ → ℕ
name_size bytes = word_at bytes 0

abbrev pub desc_size : List ℕ → ℕ
desc_size bytes = word_at bytes 4

-- where the descriptor of the note that begins the bytes begins
abbrev pub desc_offset : List ℕ → ℕ
desc_offset bytes = note_header + padded (name_size bytes)

-- the bytes of the note that begins the bytes, with its padding
abbrev pub note_size : List ℕ → ℕ
note_size bytes = desc_offset bytes + padded (desc_size bytes)

-- the note that begins the bytes, which stand at this offset of the file
abbrev pub first_note : ℕ → List ℕ → Note
first_note offset bytes = record {
  offset = offset;
  kind = word_at bytes 8;
  name = part_of bytes note_header (name_size bytes);
  desc = part_of bytes (desc_offset bytes) (desc_size bytes);
}

-- the bytes hold the note that begins them: its padded name, and its descriptor, whose padding may
-- be missing
pub record HoldsNote (bytes : List ℕ) : Type 0 where
  pub header : note_header ≤ length bytes
  pub fits : desc_offset bytes + desc_size bytes ≤ length bytes

-- what stands after the note that begins the bytes
abbrev pub after_note : List ℕ → List ℕ
after_note bytes = drop (note_size bytes) bytes

-- the bytes, which stand at this offset of the file, are these notes, one after the other, and then
-- the rest
abbrev pub AreNotesThen : ℕ → List ℕ → List Note → List ℕ → Type 0
AreNotesThen offset bytes [] rest = rest ≡ bytes
AreNotesThen offset bytes (note ∷ notes) rest = HoldsNote bytes × (first_note offset bytes ≡ note) × AreNotesThen (offset + note_size bytes) (after_note bytes) notes rest

-- the bytes are these notes; fewer bytes than a note has at least are none
abbrev pub AreNotes : ℕ → List ℕ → List Note → Type 0
AreNotes offset bytes notes = (rest : List ℕ) × AreNotesThen offset bytes notes rest × (length rest < note_header)

-- after some notes one begins, at this place of the file, that the bytes do not hold
pub record CutsNote (offset : ℕ) (bytes : List ℕ) (place : ℕ) : Type 0 where
  pub notes : List Note
  pub rest : List ℕ
  pub before : AreNotesThen offset bytes notes rest
  pub header : note_header ≤ length rest
  pub past : length rest < desc_offset rest + desc_size rest
  pub at : place + length rest ≡ offset + length bytes

-- the file, of so many bytes, holds the segment
abbrev pub IsInFile : ℕ → ElfSegment → Type 0
IsInFile size s = s.offset + s.filesz ≤ size

-- these note segments are whole, and all their notes are these, in order
abbrev pub HaveNotes : ℕ → List ElfSegment → List Note → Type 0
HaveNotes size [] notes = notes ≡ []
HaveNotes size (s ∷ ss) notes =
    (front : List Note) × (after : List Note) × (notes ≡ front ++ after) × IsInFile size s × AreNotes s.offset s.body front × HaveNotes size ss after

-- the file does not hold the segment, or the segment a note, which begins at this offset of the
-- file
abbrev pub IsCutAt : ℕ → ElfSegment → ℕ → Type 0
IsCutAt size s offset =
    ((size < s.offset + s.filesz) × (offset ≡ s.offset))
    ⊎ (IsInFile size s × CutsNote s.offset s.body offset)

-- the first of these note segments that is cut is cut at this offset of the file
abbrev pub AreCutAt : ℕ → List ElfSegment → ℕ → Type 0
AreCutAt size [] offset = ⊥
AreCutAt size (s ∷ ss) offset =
    IsCutAt size s offset ⊎ (IsInFile size s × ((notes : List Note) × AreNotes s.offset s.body notes) × AreCutAt size ss offset)

-- the segments that hold notes, in table order
abbrev pub note_segments : List ElfSegment → List ElfSegment
note_segments = filter is_note
