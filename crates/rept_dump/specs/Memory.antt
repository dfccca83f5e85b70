-- The bytes that the files of a program and its core file give of memory.
use Rattle.std.specs.Prelude.{ℕ, ◌+◌, ◌-◌, List, length, drop, Bool, true, false, ◌&&◌, not, nat_le, nat_lt, slice_index, Option, None, if◌then◌else◌}
use Rattle.std.specs.List.{find, list_any}
use Rattle.std.specs.Option.{option_map, option_or}
use Rattle.rept_elf.specs.Header.{half_at, word_at}
use Rattle.rept_elf.specs.Segments.{ElfSegment, segments, greatest_end, is_load, is_writable, is_executable}
use Rattle.rept_elf.specs.Symbols.{FunctionSymbol, symbol_at}
use Rattle.rept_dump.specs.declared.search.Allowed.{Allowed}
use Rattle.rept_dump.specs.declared.search.Allowed.TheVariants as allowed

-- the segment is part of memory, and the file has the bytes of these addresses, count bytes from a
-- on
abbrev pub holds : ℕ → ℕ → ElfSegment → Bool
holds a count s = is_load s && (nat_le s.vaddr a && nat_le (a + count) (s.vaddr + length s.body))

-- the segment's bytes from an address on
abbrev pub bytes_from : ℕ → ElfSegment → List ℕ
bytes_from a s = drop (a - s.vaddr) s.body

-- What the files of a program hold of an address: a word and a half of code, the low byte first, a
-- byte that the program could not write, and the function that has the address; and where the image
-- of the program ends. Each is known or not, for itself. Where the files are those that the process
-- had mapped, the core file lists each mapping with its permissions.
pub record Contents : Type 0 where
  pub word : ℕ → Option ℕ
  pub half : ℕ → Option ℕ
  pub kept : ℕ → Option ℕ
  pub symbol : ℕ → Option FunctionSymbol
  pub end : ℕ
  pub mapped : Bool

-- the word of code at an address: of the first executable segment that holds all four bytes
abbrev pub code_at : List ElfSegment → ℕ → Option ℕ
code_at exe a = option_map (λ s. word_at (bytes_from a s) 0) (find (λ s. is_executable s && holds a 4 s) exe)

-- the half of code at an address: of the first executable segment that holds both bytes
abbrev pub half_code_at : List ElfSegment → ℕ → Option ℕ
half_code_at exe a = option_map (λ s. half_at (bytes_from a s) 0) (find (λ s. is_executable s && holds a 2 s) exe)

-- the byte at an address: of the first segment that the program could not write
abbrev pub kept_at : List ElfSegment → ℕ → Option ℕ
kept_at exe a = option_map (λ s. slice_index (bytes_from a s) 0) (find (λ s. not (is_writable s) && holds a 1 s) exe)

-- what an executable of these segments and functions holds
abbrev pub held_by : List ElfSegment → (ℕ → Option FunctionSymbol) → Contents
held_by exe functions = record { word = code_at exe; half = half_code_at exe; kept = kept_at exe; symbol = functions; end = greatest_end exe; mapped = false }

-- what an executable holds, by its file
abbrev pub of_executable : List ℕ → Contents
of_executable file = held_by (segments file) (symbol_at file)

-- the byte at an address that a core file saved: of the first segment that holds it
abbrev pub saved_at : List ElfSegment → ℕ → Option ℕ
saved_at core a = option_map (λ s. slice_index (bytes_from a s) 0) (find (holds a 1) core)

-- the segment is part of memory that the program could write, and has the address there, whatever
-- was saved of it
abbrev pub may_be_written : ℕ → ElfSegment → Bool
may_be_written a s = is_load s && (is_writable s && (nat_le s.vaddr a && nat_lt a (s.vaddr + s.memsz)))

-- The byte at an address that the program could not write: that of its files. Of mapped files there
-- is none where the core file has the address in a segment that could be written, as a page that
-- holds both text and data.
abbrev pub kept_byte : Contents → List ElfSegment → ℕ → Option ℕ
kept_byte program core a = if program.mapped && list_any (may_be_written a) core then None else program.kept a

-- the byte that memory had at an address when it crashed: the one that the core file saved, else
-- the one that the program could not write. Else it is not known.
abbrev pub crash_byte : Contents → List ElfSegment → ℕ → Option ℕ
crash_byte program core a = option_or (saved_at core a) (kept_byte program core a)

-- the segments among which is looked
abbrev pub allows : Allowed → ElfSegment → Bool
allows allowed.All s = true
allows allowed.ReadOnly s = not (is_writable s)
allows allowed.Executable s = is_executable s
