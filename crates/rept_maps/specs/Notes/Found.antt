-- The sought notes that were found so far: their count, and the first.
use Rattle.std.specs.Prelude.{◌≡◌, ℕ, ◌+◌, List, length, Bool, MatchBool, IsTrue, Option, None, Some, Result, Ok, Err}
use Rattle.std.specs.List.{filter}
use Rattle.std.specs.Option.{option_map, option_or}
use Rattle.rept_elf.specs.Segments.{ElfSegment, is_note}
use Rattle.rept_maps.specs.Notes.Notes.{Note as NoteOf, AreNotes, IsInFile, IsCutAt}
use Rattle.rept_maps.specs.Notes.Sought.{CountedNotes, is_sought, is_short, head}
use Rattle.rept_maps.specs.declared.notes.fault.NotePastEnd.{NotePastEnd}
use Rattle.rept_maps.specs.declared.notes.note.Note.{Note}
use Rattle.rept_maps.specs.declared.notes.note.FoundNotes.{FoundNotes}
use Rattle.rept_maps.specs.declared.notes.note.NoteFilter.{NoteFilter}

-- a note of the code
abbrev pub note_of : Note → NoteOf
note_of n = record { offset = n.offset; kind = n.kind; name = n.name.now; desc = n.desc.now }

-- the notes of a type, all or those that are short
abbrev pub is_wanted : ℕ → Option ℕ → NoteOf → Bool
is_wanted kind None = is_sought kind
is_wanted kind (Some least) = is_short kind least

-- what the code looks for
abbrev pub wanted : NoteFilter → NoteOf → Bool
wanted sought = is_wanted sought.kind sought.below

-- these notes were found
pub record AreFound (found : FoundNotes) (notes : List NoteOf) : Type 0 where
  pub counted : found.count ≡ length notes
  pub first : option_map note_of found.first ≡ head notes

-- these notes were found besides
pub record AddsNotes (found found' : FoundNotes) (notes : List NoteOf) : Type 0 where
  pub counted : found'.count ≡ found.count + length notes
  pub first : option_map note_of found'.first ≡ option_or (option_map note_of found.first) (head notes)

-- the segment is whole, and its sought notes were found besides; a segment without notes has none
abbrev pub PassesSegment : (NoteOf → Bool) → ℕ → ElfSegment → FoundNotes → FoundNotes → Type 0
PassesSegment sought size s found found' = MatchBool (is_note s)
    (IsInFile size s × ((notes : List NoteOf) × AreNotes s.offset s.body notes × AddsNotes found found' (filter sought notes)))
    (found' ≡ found)

-- the segment is a note segment that is cut at this offset of the file
abbrev pub CutsSegment : ℕ → ElfSegment → ℕ → Type 0
CutsSegment size s offset = IsTrue (is_note s) × IsCutAt size s offset

-- what was found, as what the notes say
abbrev pub said_of : Result FoundNotes NotePastEnd → Result CountedNotes ℕ
said_of (Ok found) = Ok (record { count = found.count; first = option_map note_of found.first })
said_of (Err fault) = Err fault.offset
