-- The files of made crashes: an executable of one segment of code, and a core file of register
-- notes and one segment of data (TIS ELF
-- 1.2, book I; for the notes Linux's `elf_prstatus` with words of 32 bits). Fields of more than one
--   byte stand little-endian.
use Rattle.std.specs.Prelude.{ℕ, ◌+◌, List, [], ◌∷◌, ◌++◌}
use Rattle.byteorder.specs.Endian.{little_bytes}

-- words of 32 bits
abbrev pub bytes_of_words : List ℕ → List ℕ
bytes_of_words [] = []
bytes_of_words (word ∷ words) = little_bytes 4 word ++ bytes_of_words words

-- The header of an executable: class 1, little-endian, version 1; type 2, machine 243, version 1,
-- entry 0x10000, the table at 52, and sizes 52 and 32 of the header and of one entry. Then the
-- entry: loaded, from offset 84 to 0x10000, so many bytes with these flags (4 to read, 2 to write,
-- 1 to run), aligned to 4.
abbrev pub exe_header : ℕ → ℕ → List ℕ
exe_header size flags =
    127 ∷ 69 ∷ 76 ∷ 70 ∷ 1 ∷ 1 ∷ 1 ∷ 0 ∷ 0 ∷ 0 ∷ 0 ∷ 0 ∷ 0 ∷ 0 ∷ 0 ∷ 0
    ∷ 2 ∷ 0 ∷ 243 ∷ 0 ∷ 1 ∷ 0 ∷ 0 ∷ 0 ∷ 0 ∷ 0 ∷ 1 ∷ 0
    ∷ 52 ∷ 0 ∷ 0 ∷ 0 ∷ 0 ∷ 0 ∷ 0 ∷ 0 ∷ 0 ∷ 0 ∷ 0 ∷ 0
    ∷ 52 ∷ 0 ∷ 32 ∷ 0 ∷ 1 ∷ 0 ∷ 0 ∷ 0 ∷ 0 ∷ 0 ∷ 0 ∷ 0
    ∷ 1 ∷ 0 ∷ 0 ∷ 0 ∷ 84 ∷ 0 ∷ 0 ∷ 0 ∷ 0 ∷ 0 ∷ 1 ∷ 0 ∷ 0 ∷ 0 ∷ 1 ∷ 0
    ∷ bytes_of_words (size ∷ size ∷ flags ∷ 4 ∷ [])

-- an executable of these words of code, which are so many bytes and have these flags
abbrev pub executable : ℕ → ℕ → List ℕ → List ℕ
executable size flags words = exe_header size flags ++ bytes_of_words words

-- The header of a core file, as above but of type 4 with no entry and two entries in the table:
-- notes of so many bytes from offset 116, and after them data of so many bytes, which stand from
-- 0x20000 on, flags 6 (to read and to write), aligned to 1.
abbrev pub core_header : ℕ → ℕ → List ℕ
core_header notes size =
    127 ∷ 69 ∷ 76 ∷ 70 ∷ 1 ∷ 1 ∷ 1 ∷ 0 ∷ 0 ∷ 0 ∷ 0 ∷ 0 ∷ 0 ∷ 0 ∷ 0 ∷ 0
    ∷ 4 ∷ 0 ∷ 243 ∷ 0 ∷ 1 ∷ 0 ∷ 0 ∷ 0 ∷ 0 ∷ 0 ∷ 0 ∷ 0
    ∷ 52 ∷ 0 ∷ 0 ∷ 0 ∷ 0 ∷ 0 ∷ 0 ∷ 0 ∷ 0 ∷ 0 ∷ 0 ∷ 0
    ∷ 52 ∷ 0 ∷ 32 ∷ 0 ∷ 2 ∷ 0 ∷ 0 ∷ 0 ∷ 0 ∷ 0 ∷ 0 ∷ 0
    ∷ 4 ∷ 0 ∷ 0 ∷ 0 ∷ 116 ∷ 0 ∷ 0 ∷ 0 ∷ 0 ∷ 0 ∷ 0 ∷ 0 ∷ 0 ∷ 0 ∷ 0 ∷ 0
    ∷ bytes_of_words (notes ∷ 0 ∷ 0 ∷ 0 ∷ 1 ∷ (116 + notes) ∷ 131072 ∷ 0 ∷ size ∷ size ∷ 6 ∷ 1 ∷ [])

-- A register note: a name of 5 bytes, a descriptor of 204, type 1, and the name `CORE`.
abbrev pub note_head : List ℕ
note_head =
    5 ∷ 0 ∷ 0 ∷ 0 ∷ 204 ∷ 0 ∷ 0 ∷ 0 ∷ 1 ∷ 0 ∷ 0 ∷ 0
    ∷ 67 ∷ 79 ∷ 82 ∷ 69 ∷ 0 ∷ 0 ∷ 0 ∷ 0
    ∷ []

-- The descriptor up to the process, with signal 11 at 12; and from the process on up to the
-- registers.
abbrev pub status_start : List ℕ
status_start =
    0 ∷ 0 ∷ 0 ∷ 0 ∷ 0 ∷ 0 ∷ 0 ∷ 0 ∷ 0 ∷ 0 ∷ 0 ∷ 0
    ∷ 11 ∷ 0 ∷ 0 ∷ 0 ∷ 0 ∷ 0 ∷ 0 ∷ 0 ∷ 0 ∷ 0 ∷ 0 ∷ 0
    ∷ []

abbrev pub status_middle : List ℕ
status_middle =
    0 ∷ 0 ∷ 0 ∷ 0 ∷ 0 ∷ 0 ∷ 0 ∷ 0 ∷ 0 ∷ 0 ∷ 0 ∷ 0
    ∷ 0 ∷ 0 ∷ 0 ∷ 0 ∷ 0 ∷ 0 ∷ 0 ∷ 0 ∷ 0 ∷ 0 ∷ 0 ∷ 0
    ∷ 0 ∷ 0 ∷ 0 ∷ 0 ∷ 0 ∷ 0 ∷ 0 ∷ 0 ∷ 0 ∷ 0 ∷ 0 ∷ 0
    ∷ 0 ∷ 0 ∷ 0 ∷ 0 ∷ 0 ∷ 0 ∷ 0 ∷ 0
    ∷ []

-- the note of a process up to its registers
abbrev pub note_start : ℕ → List ℕ
note_start process = note_head ++ (status_start ++ (process ∷ 0 ∷ 0 ∷ 0 ∷ status_middle))

-- the descriptor of a process: its program counter and x1 to x31, and a last word
abbrev pub status_of : ℕ → List ℕ → List ℕ
status_of process saved = status_start ++ (process ∷ 0 ∷ 0 ∷ 0 ∷ (status_middle ++ (bytes_of_words saved ++ (0 ∷ 0 ∷ 0 ∷ 0 ∷ []))))

abbrev pub status_note : ℕ → List ℕ → List ℕ
status_note process saved = note_head ++ status_of process saved

-- the core file of a made crash: the note of process 1 with the program counter and x1 to x31, and
-- then the data
abbrev pub core_file : List ℕ → List ℕ → List ℕ
core_file registers data_bytes = core_header 224 1024 ++ (note_start 1 ++ (bytes_of_words registers ++ (0 ∷ 0 ∷ 0 ∷ 0 ∷ data_bytes)))
