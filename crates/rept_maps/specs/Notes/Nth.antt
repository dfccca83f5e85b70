-- Looking for one note after others (the project's own).
use Rattle.std.specs.Prelude.{◌≡◌, ℕ, ◌+◌, List, [], length, slice_get, Some, MatchBool}
use Rattle.rept_elf.specs.Segments.{ElfSegment, is_note}
use Rattle.rept_maps.specs.Notes.Found.{note_of}
use Rattle.rept_maps.specs.Notes.Notes.{Note, AreNotes}
use Rattle.rept_maps.specs.declared.notes.nth.NoteSearch.{NoteSearch}
use Rattle.rept_maps.specs.declared.notes.nth.NoteSearch.TheVariants.{Found, Past}

-- the note after so many of these, or how many more would have to be passed over
abbrev pub Searches : List Note → ℕ → NoteSearch → Type 0
Searches notes skip (Found note) = slice_get notes skip ≡ Some (note_of note)
Searches notes skip (Past left) = length notes + left ≡ skip

-- the notes of a segment; one that isn't of notes has none
abbrev pub AreNotesOf : ElfSegment → List Note → Type 0
AreNotesOf s notes = MatchBool (is_note s) (AreNotes s.offset s.body notes) (notes ≡ [])
