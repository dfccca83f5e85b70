-- The line that is written before a status, and the status.
use Rattle.std.specs.Prelude.{ℕ, ◌%◌, List, [], ◌∷◌, ◌++◌, codes, nat_lt, if◌then◌else◌}
use Rattle.std.specs.Fmt.{decimal}
use Rattle.rept_word.specs.Hex.{hex_word, hex_byte}
use Rattle.rept_elf.specs.declared.fault.ElfFault.{ElfFault}
use Rattle.rept_elf.specs.declared.fault.ElfFault.TheVariants as elf
use Rattle.rept_dump.specs.declared.fault.CoreFault.{CoreFault}
use Rattle.rept_dump.specs.declared.fault.CoreFault.TheVariants as notes
use Rattle.rept_maps.specs.declared.fault.MapFault.{MapFault}
use Rattle.rept_maps.specs.declared.fault.MapFault.TheVariants as maps
use Rattle.rept_trace.specs.declared.fault.TraceFault.{TraceFault}
use Rattle.rept_trace.specs.declared.fault.TraceFault.TheVariants as packets
use Rattle.rept_path.specs.declared.fault.PathFault.{PathFault}
use Rattle.rept_path.specs.declared.fault.PathFault.TheVariants as path
use Rattle.rept_reason.specs.declared.fact.Cell.{Cell}
use Rattle.rept_reason.specs.declared.fact.Cell.TheVariants.{Register, Byte}
use Rattle.rept_report.specs.declared.conflict.ConflictKind.{ConflictKind}
use Rattle.rept_report.specs.declared.conflict.ConflictKind.TheVariants.{TwoValues, EmptyRange, WrongTurn}
use Rattle.rept_found.specs.declared.contradiction.Contradiction.{Contradiction}
use Rattle.rept_findings.specs.Texts.{place_text, thread_named}
use Rattle.rept_findings.specs.declared.place.Place.{Place}
use Rattle.rept_opening.specs.declared.refusal.FileKind.{FileKind}
use Rattle.rept_opening.specs.declared.refusal.FileKind.TheVariants as file
use Rattle.rept_opening.specs.declared.refusal.Refusal.{Refusal}
use Rattle.rept_opening.specs.declared.refusal.Refusal.TheVariants as refusal
use Rattle.rept_opening.specs.declared.status.ExitStatus.{ExitStatus}
use Rattle.rept_opening.specs.declared.status.ExitStatus.TheVariants as ends

-- a trace that is refused or has no path; or memory ran out
abbrev pub status_of_path : PathFault → ExitStatus
status_of_path path.OutOfMemory = ends.OutOfMemory
status_of_path _ = ends.Trace

abbrev pub status_of : Refusal → ExitStatus
status_of refusal.Usage = ends.Usage
status_of (refusal.LoadFault f) = ends.LoadFault
status_of (refusal.NoFile f) = ends.NoFile
status_of (refusal.TooLarge f) = ends.TooLarge
status_of (refusal.Executable f) = ends.Executable
status_of (refusal.CoreImage f) = ends.Core
status_of (refusal.Core f) = ends.Core
status_of (refusal.Maps f) = ends.Core
status_of (refusal.Path f) = status_of_path f
status_of (refusal.Inconsistent c) = ends.Inconsistent
status_of (refusal.Refuted p r) = ends.Inconsistent
status_of refusal.InputFault = ends.InputFault
status_of refusal.OutOfMemory = ends.OutOfMemory
status_of refusal.TooMuchInput = ends.TooMuchInput

abbrev pub file_word : FileKind → List ℕ
file_word file.Exe = codes "exe"
file_word file.Core = codes "core"
file_word file.Trace = codes "trace"

-- the number of a fault of an image, and what it holds
abbrev pub elf_fault_text : ElfFault → List ℕ
elf_fault_text elf.NotElf = codes "1"
elf_fault_text elf.NotClass32 = codes "2"
elf_fault_text elf.NotLittle = codes "3"
elf_fault_text elf.NotRiscv = codes "4"
elf_fault_text (elf.WrongType kind) = codes "5 " ++ decimal kind
elf_fault_text elf.HeaderPastEnd = codes "6"
elf_fault_text (elf.EntrySize size) = codes "7 " ++ decimal size
elf_fault_text (elf.TooMany count) = codes "8 " ++ decimal count
elf_fault_text (elf.SegmentPastEnd index) = codes "9 " ++ decimal index
elf_fault_text (elf.SegmentSize index) = codes "10 " ++ decimal index
elf_fault_text (elf.AddressWrap index) = codes "11 " ++ decimal index

-- the same of a core file's notes
abbrev pub core_fault_text : CoreFault → List ℕ
core_fault_text notes.NoStatus = codes "core 1"
core_fault_text (notes.ShortStatus size) = codes "core 2 " ++ decimal size
core_fault_text (notes.NotePastEnd offset) = codes "core 3 " ++ decimal offset
core_fault_text (notes.SeveralThreads count) = codes "core 4 " ++ decimal count
core_fault_text (notes.SameThread pid) = codes "core 5 " ++ decimal pid
core_fault_text (notes.TooManyThreads count) = codes "core 6 " ++ decimal count

-- the same of its list of mapped files
abbrev pub map_fault_text : MapFault → List ℕ
map_fault_text (maps.NotePastEnd offset) = codes "core 3 " ++ decimal offset
map_fault_text maps.NoMap = codes "core 7"
map_fault_text (maps.BadMap offset) = codes "core 8 " ++ decimal offset
map_fault_text (maps.TooManyMaps count) = codes "core 9 " ++ decimal count

-- The number of a fault of the trace's bytes, and what it holds: the number of the byte of the
-- header, of the packet or of the stream, or an offset. The packets are those of Efficient Trace
-- for RISC-V 2.0.
abbrev pub trace_fault_text : TraceFault → List ℕ
trace_fault_text packets.BadMagic = codes "1"
trace_fault_text (packets.BadHeader i) = codes "2 " ++ decimal i
trace_fault_text (packets.Truncated k) = codes "3 " ++ decimal k
trace_fault_text (packets.Optional k) = codes "4 " ++ decimal k
trace_fault_text (packets.Trap k) = codes "5 " ++ decimal k
trace_fault_text (packets.BadSupport k) = codes "6 " ++ decimal k
trace_fault_text (packets.StreamPastEnd s) = codes "7 " ++ decimal s
trace_fault_text (packets.Rest offset) = codes "8 " ++ decimal offset

-- The number of the reason why a trace has no path, and what it holds: numbers of packets and
-- counts in decimal, addresses and code words in hexadecimal.
abbrev pub path_fault_text : PathFault → List ℕ
path_fault_text (path.NoStart k) = codes "path 1 " ++ decimal k
path_fault_text (path.NotCode a) = codes "path 2 " ++ hex_word a
path_fault_text (path.NotRv32im a w) = codes "path 3 " ++ hex_word a ++ codes " " ++ hex_word w
path_fault_text (path.Unaligned a) = codes "path 4 " ++ hex_word a
path_fault_text (path.NoBranchBit k a) = codes "path 5 " ++ decimal k ++ codes " " ++ hex_word a
path_fault_text (path.BranchesLeft k count) = codes "path 6 " ++ decimal k ++ codes " " ++ decimal count
path_fault_text (path.JumpInMap k a) = codes "path 7 " ++ decimal k ++ codes " " ++ hex_word a
path_fault_text (path.Gap k last start) = codes "path 8 " ++ decimal k ++ codes " " ++ hex_word last ++ codes " " ++ hex_word start
path_fault_text (path.End last pc) = codes "path 9 " ++ hex_word last ++ codes " " ++ hex_word pc
path_fault_text (path.TooLong k) = codes "path 10 " ++ decimal k
path_fault_text (path.Packet f) = codes "path 11 " ++ trace_fault_text f
path_fault_text (path.Trapped k a) = codes "path 12 " ++ decimal k ++ codes " " ++ hex_word a
path_fault_text path.OutOfMemory = codes "out-of-memory"
path_fault_text (path.TimeBack k) = codes "path 14 " ++ decimal k
path_fault_text (path.SliceOverlap process time) = codes "path 15 " ++ decimal process ++ codes " " ++ decimal time
path_fault_text (path.UnknownThread k process) = codes "path 16 " ++ decimal k ++ codes " " ++ decimal process
path_fault_text (path.OtherThread k process) = codes "path 17 " ++ decimal k ++ codes " " ++ decimal process

-- a register as `x5`, a byte as its address
abbrev pub cell_text : Cell → List ℕ
cell_text (Register r) = codes "x" ++ decimal r
cell_text (Byte address) = hex_word address

-- the value of a register as a word, that of a byte as two digits; which cell it is, `cell_text`
-- prints before it
abbrev pub value_text_in : Cell → ℕ → List ℕ
value_text_in (Register r) value = hex_word value
value_text_in (Byte address) value = hex_byte (value % 256)

abbrev pub two_values_text : Place → Cell → ℕ → ℕ → List ℕ
two_values_text place cell v w =
    codes "inconsistent two-values " ++ place_text place ++ codes " " ++ cell_text cell ++ codes " " ++ value_text_in cell v ++ codes " " ++ value_text_in cell w

-- Two values of a register or byte, a register without a value, or a step that went another way: at
-- a point, or of a byte at a moment (`after-J` after a step, `end`).
abbrev pub conflict_text : Place → ConflictKind → List ℕ
conflict_text place (TwoValues point cell v w) = two_values_text place cell v w
conflict_text place (EmptyRange point reg) = codes "inconsistent empty-range " ++ place_text place ++ codes " x" ++ decimal reg
conflict_text place (WrongTurn step) = codes "inconsistent wrong-turn " ++ place_text place

abbrev pub contradiction_text : Contradiction → List ℕ
contradiction_text c = conflict_text c.at.place c.kind ++ thread_named c.threads c.at.thread

abbrev pub words_of : Refusal → List ℕ
words_of refusal.Usage = codes "usage: rept open|bits|infer EXE CORE TRACE [FROM] | rept self SEED STEPS | rept maps CORE TRACE [FROM] | rept infer maps CORE TRACE [FROM]"
words_of (refusal.LoadFault f) = codes "load-fault " ++ file_word f
words_of (refusal.NoFile f) = codes "no-file " ++ file_word f
words_of (refusal.TooLarge f) = codes "too-large " ++ file_word f
words_of (refusal.Executable f) = codes "executable " ++ elf_fault_text f
words_of (refusal.CoreImage f) = codes "core-image " ++ elf_fault_text f
words_of (refusal.Core f) = core_fault_text f
words_of (refusal.Maps f) = map_fault_text f
words_of (refusal.Path f) = path_fault_text f
words_of (refusal.Inconsistent c) = contradiction_text c
words_of (refusal.Refuted p r) = codes "inconsistent infer " ++ decimal p ++ codes " x" ++ decimal r
words_of refusal.InputFault = codes "input-fault"
words_of refusal.OutOfMemory = codes "out-of-memory"
words_of refusal.TooMuchInput = codes "too-much-input"

abbrev pub line_of : Refusal → List ℕ
line_of r = words_of r ++ 10 ∷ []
