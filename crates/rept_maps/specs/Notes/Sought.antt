-- The notes of one type among those of a core file that the kernel named `CORE`.
use Rattle.std.specs.Prelude.{◌≡◌, ℕ, ◌⊎◌, List, [], ◌∷◌, length, drop, Bool, ◌==◌, ◌&&◌, nat_eq, nat_lt, Option, None, Some, Result, Ok, Err}
use Rattle.std.specs.List.{filter, list_all, starts_with}
use Rattle.rept_elf.specs.Segments.{ElfSegment}
use Rattle.rept_maps.specs.Notes.Notes.{Note, HaveNotes, AreCutAt, note_segments}

-- `CORE`
abbrev pub core_name : List ℕ
core_name = 67 ∷ 79 ∷ 82 ∷ 69 ∷ []

-- the name is `CORE`, and then zero bytes alone
abbrev pub is_core_name : List ℕ → Bool
is_core_name name = starts_with nat_eq name core_name && list_all (λ b. b == 0) (drop 4 name)

-- the note is one of this type and named `CORE`
abbrev pub is_sought : ℕ → Note → Bool
is_sought kind note = (note.kind == kind) && is_core_name note.name

-- such a note, whose descriptor has fewer bytes than these
abbrev pub is_short : ℕ → ℕ → Note → Bool
is_short kind least note = is_sought kind note && nat_lt (length note.desc) least

-- the first note
abbrev pub head : List Note → Option Note
head [] = None
head (note ∷ notes) = Some note

-- how many notes there are, and the first
pub record CountedNotes : Type 0 where
  pub count : ℕ
  pub first : Option Note

abbrev pub counted : List Note → CountedNotes
counted notes = record { count = length notes; first = head notes }

-- what the notes of a core file of so many bytes say of those that are sought: where the first that
-- isn't whole begins, or how many are sought, and the first
abbrev pub SaysOf : (Note → Bool) → ℕ → List ElfSegment → Result CountedNotes ℕ → Type 0
SaysOf sought size ss said =
    ((offset : ℕ) × AreCutAt size (note_segments ss) offset × (said ≡ Err offset))
    ⊎ ((notes : List Note) × HaveNotes size (note_segments ss) notes × (said ≡ Ok (counted (filter sought notes))))

-- the same of those of one type
abbrev pub SaysOfType : ℕ → ℕ → List ElfSegment → Result CountedNotes ℕ → Type 0
SaysOfType kind = SaysOf (is_sought kind)
