-- What the files of a crash tell a debugger besides the report: notes of the core file
-- (include/uapi/linux/elf.h), and where the executable was loaded, by the auxiliary vector
-- (include/uapi/linux/auxvec.h): entries of two words, a type and a value.
use Rattle.std.specs.Prelude.{◌≡◌, ℕ, ◌+◌, ◌-◌, ◌*◌, ◌/◌, ◌%◌, ◌^◌, List, [], ◌∷◌, length, Bool, ◌==◌, ◌&&◌, nat_le, nat_lt, Option, None, Some, if◌then◌else◌}
use Rattle.std.specs.List.{filter, find, range_with_len}
use Rattle.std.specs.Option.{option_and_then, option_map}
use Rattle.rept_elf.specs.Header.{word_at}
use Rattle.rept_elf.specs.Image.{file_of, segments_of}
use Rattle.rept_elf.specs.Segments.{ElfSegment, is_load, segments}
use Rattle.rept_maps.specs.Mapped.Mapped.{Mapping}
use Rattle.rept_maps.specs.Mapped.Mappings.{mappings_of}
use Rattle.rept_maps.specs.Notes.Notes.{HaveNotes, Note, note_segments}
use Rattle.rept_maps.specs.Notes.Sought.{is_sought}
use Rattle.rept_dump.specs.Program.{Program}
use Rattle.rept_dump.specs.Program.Program.{OneFile, MappedFiles}
use Rattle.rept_stub.specs.declared.files.ProcessFiles.{ProcessFiles}
use Rattle.rept_stub.specs.declared.files.ProgramImages.{ProgramImages}
use Rattle.rept_stub.specs.declared.files.ProgramImages.TheVariants as images

-- the files of a program as those of a crash
abbrev pub program_of : ProgramImages → Program
program_of (images.Executable image) = OneFile (file_of image)
program_of (images.Mapped mapped) = MappedFiles (mappings_of mapped)

-- the descriptor of the first of some notes; empty where there is none
abbrev pub first_desc : List Note → List ℕ
first_desc [] = []
first_desc (note ∷ notes) = note.desc

-- the index of the first entry of a type, and its value
abbrev pub entry_of : ℕ → List ℕ → Option ℕ
entry_of kind vector = find (λ i. word_at vector (8 * i) == kind) (range_with_len 0 (length vector / 8))

abbrev pub auxiliary_value : ℕ → List ℕ → Option ℕ
auxiliary_value kind vector = option_map (λ i. word_at vector (8 * i + 4)) (entry_of kind vector)

-- the address of the first segment that is part of memory
abbrev pub first_address : List ElfSegment → Option ℕ
first_address [] = None
first_address (s ∷ ss) = if is_load s then Some s.vaddr else first_address ss

-- where the first segment of an executable was loaded whose first instruction is at this address:
-- as far from its own as the first instruction is from `e_entry`, the word at 24
abbrev pub loaded_at : ℕ → List ℕ → Option ℕ
loaded_at entry file = option_map (λ first. (first + (entry + (2 ^ 32 - word_at file 24)) % 2 ^ 32) % 2 ^ 32) (first_address (segments file))

abbrev pub has_address : ℕ → Mapping → Bool
has_address a m = nat_le m.start a && nat_lt a m.end

-- that of the mapped file that has this address
abbrev pub loaded_in : List Mapping → ℕ → Option ℕ
loaded_in ms entry = option_and_then (λ m. option_and_then (loaded_at entry) m.file) (find (has_address entry) ms)

-- by the auxiliary vector, whose entry of type 9 has the address of the first instruction
abbrev pub load_address : List Mapping → List ℕ → Option ℕ
load_address ms vector = option_and_then (loaded_in ms) (auxiliary_value 9 vector)

-- an executable that was given is where it says; what a process had mapped may be elsewhere
abbrev pub address_of : Program → List ℕ → Option ℕ
address_of (OneFile file) vector = None
address_of (MappedFiles ms) vector = load_address ms vector

-- what the core file's notes say: of type 6 the auxiliary vector, of type 0x53494749 what the
-- system told of the signal; and where the executable was loaded
pub record AreFilesOf (files : ProcessFiles) : Type 0 where
  pub vector : (notes : List Note) → HaveNotes (length (file_of files.core)) (note_segments (segments_of files.core)) notes → files.auxiliary_vector.now ≡ first_desc (filter (is_sought 6) notes)
  pub signal_info : (notes : List Note) → HaveNotes (length (file_of files.core)) (note_segments (segments_of files.core)) notes → files.signal_info.now ≡ first_desc (filter (is_sought 0x53494749) notes)
  pub load_address : files.load_address ≡ address_of (program_of files.program) files.auxiliary_vector.now
