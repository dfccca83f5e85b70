-- What a core file says of the files that were mapped (which refusal comes first is the project's
-- own).
use Rattle.std.specs.Prelude.{◌≡◌, ℕ, ◌<◌, ◌≤◌, ◌⊎◌, List, Option, None, Some, Result, Ok, Err}
use Rattle.std.specs.List.{filter}
use Rattle.rept_elf.specs.Segments.{ElfSegment}
use Rattle.rept_maps.specs.Notes.Notes.{Note, HaveNotes, AreCutAt, note_segments}
use Rattle.rept_maps.specs.Notes.Sought.{is_sought, head}
use Rattle.rept_maps.specs.FileMap.{IsFileMap, map_count, file_kind, most_entries}
use Rattle.rept_maps.specs.declared.fault.MapFault.{MapFault}
use Rattle.rept_maps.specs.declared.fault.MapFault.TheVariants as fault

-- what one note says: its descriptor, or why it is refused
abbrev pub NoteSays : Note → Result (List ℕ) MapFault → Type 0
NoteSays note said =
    ((IsFileMap note.desc → ⊥) × (said ≡ Err (fault.BadMap note.offset)))
    ⊎ (IsFileMap note.desc × (((most_entries < map_count note.desc) × (said ≡ Err (fault.TooManyMaps (map_count note.desc))))
    ⊎ ((map_count note.desc ≤ most_entries) × (said ≡ Ok note.desc))))

-- what the first file note says
abbrev pub FirstSays : Option Note → Result (List ℕ) MapFault → Type 0
FirstSays None said = said ≡ Err fault.NoMap
FirstSays (Some note) said = NoteSays note said

-- what the notes of a core file of so many bytes say: the descriptor of the file note, or the first
-- fault
abbrev pub MapsSay : ℕ → List ElfSegment → Result (List ℕ) MapFault → Type 0
MapsSay size ss said =
    ((offset : ℕ) × AreCutAt size (note_segments ss) offset × (said ≡ Err (fault.NotePastEnd offset)))
    ⊎ ((notes : List Note) × HaveNotes size (note_segments ss) notes × FirstSays (head (filter (is_sought file_kind) notes)) said)
