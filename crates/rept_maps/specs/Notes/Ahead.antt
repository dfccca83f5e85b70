-- How far bytes were gone through for notes, one after the other (the project's own).
use Rattle.std.specs.Prelude.{◌≡◌, ℕ, ◌+◌, ◌≤◌, List, length, drop, slice_get, Bool, Option, Some}
use Rattle.std.specs.List.{filter}
use Rattle.rept_elf.specs.Segments.{ElfSegment}
use Rattle.rept_maps.specs.Notes.Notes.{Note, AreNotesThen}
use Rattle.rept_maps.specs.Notes.Found.{AreFound}
use Rattle.rept_maps.specs.declared.notes.ahead.Ahead.{Ahead}
use Rattle.rept_maps.specs.declared.notes.ahead.NotesFrom.{NotesFrom}

-- the bytes, which stand at this offset of the file, are some whole notes and then this rest, and
-- these are the sought among them
pub record IsAhead (sought : Note → Bool) (offset : ℕ) (bytes : List ℕ) (ahead : Ahead) : Type 0 where
  pub notes : List Note
  pub before : AreNotesThen offset bytes notes ahead.rest.now
  pub found : AreFound ahead.found (filter sought notes)
  pub fewer : ahead.found.count + length ahead.rest.now ≤ length bytes

-- what is kept of the notes of a file is so from its offset on
abbrev pub AreLeaps : (Note → Bool) → List ℕ → List (Option NotesFrom) → Type 0
AreLeaps sought file leaps = (i : ℕ) (leap : NotesFrom) → slice_get leaps i ≡ Some (Some leap) → IsAhead sought leap.at (drop leap.at file) leap.ahead

-- what is kept of a segment is so of its bytes
abbrev pub AreAhead : (Note → Bool) → List ElfSegment → List (Option Ahead) → Type 0
AreAhead sought segments aheads =
    (i : ℕ) (s : ElfSegment) (ahead : Ahead) → slice_get segments i ≡ Some s → slice_get aheads i ≡ Some (Some ahead) → IsAhead sought s.offset s.body ahead
