-- The checks of a file, in their order, each with the fault that it brings where the file fails it.
use Rattle.std.specs.Prelude.{ℕ, ◌+◌, ◌^◌, List, [], ◌∷◌, ◌++◌, length, Bool, true, false, ◌==◌, ◌||◌, ◌&&◌, nat_le, Option, None, Some, if◌then◌else◌}
use Rattle.rept_elf.specs.Header.{word_at, elf_magic, header_size, ei_class, ei_data, e_type, e_machine, e_phentsize, e_phnum, entry_offset}
use Rattle.rept_elf.specs.Segments.{ElfSegment, segments, is_load}
use Rattle.rept_elf.specs.declared.fault.Want.{Want}
use Rattle.rept_elf.specs.declared.fault.Want.TheVariants.{Exec, Core, Shared}
use Rattle.rept_elf.specs.declared.fault.ElfFault.{ElfFault}
use Rattle.rept_elf.specs.declared.fault.ElfFault.TheVariants as fault

pub record Check : Type 0 where
  pub passes : Bool
  pub fault : ElfFault

-- the fault of the first check that is failed
abbrev pub first_failure : List Check → Option ElfFault
first_failure [] = None
first_failure (c ∷ cs) = if c.passes then first_failure cs else Some c.fault

-- the type is a wanted one: `ET_EXEC` is 2, `ET_DYN`, of a shared object or a position-independent
-- executable, 3, `ET_CORE` 4
abbrev pub is_wanted : Want → ℕ → Bool
is_wanted Exec kind = kind == 2
is_wanted Core kind = kind == 4
is_wanted Shared kind = (kind == 2) || (kind == 3)

-- the checks of the header and of where the table stands
abbrev pub header_checks : Want → List ℕ → List Check
header_checks want file =
    record { passes = nat_le header_size (length file) && (word_at file 0 == elf_magic); fault = fault.NotElf }
    ∷ record { passes = ei_class file == 1; fault = fault.NotClass32 }
    ∷ record { passes = ei_data file == 1; fault = fault.NotLittle }
    ∷ record { passes = e_machine file == 243; fault = fault.NotRiscv }
    ∷ record { passes = is_wanted want (e_type file); fault = fault.WrongType (e_type file) }
    ∷ record { passes = e_phentsize file == 32; fault = fault.EntrySize (e_phentsize file) }
    ∷ record { passes = nat_le (e_phnum file) 4096; fault = fault.TooMany (e_phnum file) }
    ∷ record { passes = nat_le (entry_offset file (e_phnum file)) (length file); fault = fault.HeaderPastEnd }
    ∷ []

-- a segment need not stand in the file if the file is a core, which may be cut short
abbrev pub may_be_cut : Want → Bool
may_be_cut Exec = false
may_be_cut Core = true
may_be_cut Shared = false

-- the checks of the segment of an index
abbrev pub segment_checks : Want → ℕ → ℕ → ElfSegment → List Check
segment_checks want size index s = if is_load s then
    record { passes = nat_le s.filesz s.memsz; fault = fault.SegmentSize index }
    ∷ record { passes = nat_le (s.vaddr + s.memsz) (2 ^ 32); fault = fault.AddressWrap index }
    ∷ record { passes = may_be_cut want || nat_le (s.offset + s.filesz) size; fault = fault.SegmentPastEnd index }
    ∷ [] else []

-- the checks of segments from an index on, of a file of this size
abbrev pub table_checks : Want → ℕ → ℕ → List ElfSegment → List Check
table_checks want size index [] = []
table_checks want size index (s ∷ ss) = segment_checks want size index s ++ table_checks want size (index + 1) ss

-- all checks of a file
abbrev pub checks : Want → List ℕ → List Check
checks want file = header_checks want file ++ table_checks want (length file) 0 (segments file)
