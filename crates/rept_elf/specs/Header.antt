-- The ELF header and the program headers of a file of 32 bits, little-endian: Tool Interface
-- Standard (TIS) Executable and Linking Format 1.2, book I, "ELF Header" and "Program Header"; for
-- `EM_RISCV` the RISC-V ELF psABI.
use Rattle.std.specs.Prelude.{ℕ, ◌+◌, ◌*◌, ◌≤◌, List, length, drop, slice_index}
use Rattle.byteorder.specs.Endian.{little_number}

-- the 16 bits at an offset of the file, the low byte first
abbrev pub half_at : List ℕ → ℕ → ℕ
half_at file offset = little_number 2 (drop offset file)

-- the 32 bits at an offset of the file, the low byte first
abbrev pub word_at : List ℕ → ℕ → ℕ
word_at file offset = little_number 4 (drop offset file)

-- the four bytes that begin a file, `7f 45 4c 46`, as such a word
abbrev pub elf_magic : ℕ
elf_magic = 0x464c457f

-- the bytes of a header
abbrev pub header_size : ℕ
header_size = 52

-- `EI_CLASS`: 1 is `ELFCLASS32`
abbrev pub ei_class : List ℕ → ℕ
ei_class file = slice_index file 4

-- `EI_DATA`: 1 is `ELFDATA2LSB`
abbrev pub ei_data : List ℕ → ℕ
ei_data file = slice_index file 5

-- 2 is `ET_EXEC`, 4 is `ET_CORE`
abbrev pub e_type : List ℕ → ℕ
e_type file = half_at file 16

-- 243 is `EM_RISCV`
abbrev pub e_machine : List ℕ → ℕ
e_machine file = half_at file 18

-- the offset of the program header table
abbrev pub e_phoff : List ℕ → ℕ
e_phoff file = word_at file 28

-- the bytes of a program header
abbrev pub e_phentsize : List ℕ → ℕ
e_phentsize file = half_at file 42

-- the count of program headers
abbrev pub e_phnum : List ℕ → ℕ
e_phnum file = half_at file 44

-- the offset of the program header of an index, of 32 bytes each
abbrev pub entry_offset : List ℕ → ℕ → ℕ
entry_offset file index = e_phoff file + 32 * index

-- the header and all program headers stand in the file
pub record HasTable (file : List ℕ) : Type 0 where
  pub header : header_size ≤ length file
  pub table : entry_offset file (e_phnum file) ≤ length file
  pub few : e_phnum file ≤ 4096
