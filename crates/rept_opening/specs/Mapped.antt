-- The crash of a core file that lists the files of its program.
use Rattle.std.specs.Prelude.{◌≡◌, ◌⊎◌, ℕ, ◌+◌, ◌≤◌, List, [], ◌∷◌, ◌++◌, length, map, Option, None, Result, Ok, codes}
use Rattle.rept_elf.specs.Segments.{segments}
use Rattle.rept_maps.specs.FileMap.{MapEntry, entry_named}
use Rattle.rept_maps.specs.Told.{MapsSay}
use Rattle.rept_maps.specs.declared.fault.MapFault.{MapFault}
use Rattle.rept_maps.specs.Mapped.Mapped.{Mapping}
use Rattle.rept_maps.specs.Mapfiles.Kept.{asked_names, kept_all, kept_at, most_in_all, names_of}
use Rattle.rept_ports.specs.Shelves.{Files}
use Rattle.rept_findings.specs.Texts.{visible}
use Rattle.rept_opening.specs.Forms.{core_image_fault}
use Rattle.rept_opening.specs.Loading.{CrashBytes, CoreBytes, parts_bytes}

-- the bytes of the core file and the trace, and the files among which those that the core file
-- lists are looked for
pub record MappedCrash : Type 0 where
  pub files : Files
  pub bytes : CoreBytes

abbrev pub mapped_crash : Files → CoreBytes → MappedCrash
mapped_crash files bytes = record { files = files; bytes = bytes }

-- what the core file's list of mapped files says: the descriptor of its file note, or the first
-- fault
abbrev pub ListSays : List ℕ → Result (List ℕ) MapFault → Type 0
ListSays core said = MapsSay (length core) (segments core) said

-- an entry with the bytes of its file, where they were kept
abbrev pub mapped_part : MapEntry → Option (List ℕ) → Mapping
mapped_part e file = record { start = e.start; end = e.end; offset = e.offset; file = file }

-- the entries of a file note from an index on, which have these names, with what is kept of each
-- name's file
abbrev pub parts_from : (List ℕ → Option (List ℕ)) → List ℕ → ℕ → List (List ℕ) → List Mapping
parts_from kept desc i [] = []
parts_from kept desc i (n ∷ ns) = mapped_part (entry_named desc i n) (kept n) ∷ parts_from kept desc (i + 1) ns

-- what is kept of the file of a name of a file note
abbrev pub kept_of : Files → List ℕ → List ℕ → Option (List ℕ)
kept_of files desc name = kept_at (asked_names desc) (kept_all files most_in_all (asked_names desc)) name

-- the mapped files of a file note: its entries, in table order
abbrev pub mapped_files : Files → List ℕ → List Mapping
mapped_files files desc = parts_from (kept_of files desc) desc 0 (names_of desc)

-- the bytes of the crash, by the descriptor of the file note
abbrev pub mapped_bytes : MappedCrash → List ℕ → CrashBytes
mapped_bytes m desc = parts_bytes (mapped_files m.files desc) m.bytes

-- the core file is accepted as an image, and its list is accepted: these are the bytes of the crash
pub record IsMappedAs (m : MappedCrash) (bytes : CrashBytes) : Type 0 where
  pub accepted : core_image_fault m.bytes.core ≡ None
  pub desc : List ℕ
  pub listed : ListSays m.bytes.core (Ok desc)
  pub same : bytes ≡ mapped_bytes m desc

-- the line of a mapped file whose load failed: its name, with `?` for each byte that is no visible
-- character
abbrev pub name_line : List ℕ → List ℕ
name_line name = codes "load-fault " ++ map visible name ++ 10 ∷ []
