-- The sections of a file, as its section headers list them: TIS ELF 1.2, book I, "ELF Header" and
-- "Sections". A section header has 40 bytes.
use Rattle.std.specs.Prelude.{ℕ, zero, suc, ◌+◌, ◌*◌, List, [], ◌∷◌, length, Bool, ◌==◌, nat_le, Option, None, Some, if◌then◌else◌}
use Rattle.rept_elf.specs.Header.{half_at, word_at}
use Rattle.rept_elf.specs.Segments.{part_of}

-- a section: fields of its header
pub record ElfSection : Type 0 where
  pub kind : ℕ
  pub offset : ℕ
  pub size : ℕ
  pub link : ℕ

-- the offset of the section header table
abbrev pub e_shoff : List ℕ → ℕ
e_shoff file = word_at file 32

-- the count of section headers
abbrev pub e_shnum : List ℕ → ℕ
e_shnum file = half_at file 48

-- the offset of the section header of an index
abbrev pub section_offset : List ℕ → ℕ → ℕ
section_offset file index = e_shoff file + 40 * index

-- the section whose header stands at an offset of the file: `sh_type`, `sh_offset`, `sh_size` and
-- `sh_link`
abbrev pub section_from : List ℕ → ℕ → ElfSection
section_from file header = record {
  kind = word_at file (header + 4);
  offset = word_at file (header + 16);
  size = word_at file (header + 20);
  link = word_at file (header + 24);
}

-- so many entries of a table, from an index on
abbrev pub entries_from : {X : Type 0} → (ℕ → X) → ℕ → ℕ → List X
entries_from entry index zero = []
entries_from entry index (suc count) = entry index ∷ entries_from entry (index + 1) count

-- the file holds all section headers
abbrev pub holds_sections : List ℕ → Bool
holds_sections file = nat_le (section_offset file (e_shnum file)) (length file)

-- the sections in table order; none of a file that does not hold their headers
abbrev pub sections : List ℕ → List ElfSection
sections file = if holds_sections file then entries_from (λ index. section_from file (section_offset file index)) 0 (e_shnum file) else []

-- the bytes of a section, where the file holds them
abbrev pub contents : List ℕ → ElfSection → Option (List ℕ)
contents file s = if nat_le (s.offset + s.size) (length file) then Some (part_of file s.offset s.size) else None

-- `SHT_SYMTAB`: the section is a symbol table
abbrev pub is_symbol_table : ElfSection → Bool
is_symbol_table s = s.kind == 2
