-- The run of a file of several streams, and why there is none. This project's own.
use Rattle.std.specs.Prelude.{map, ◌≡◌, ◌⊎◌, ℕ, ◌+◌, List, [], ◌∷◌, length, Some, None}
use Rattle.rept_dump.specs.Memory.{Contents}
use Rattle.rept_elf.specs.Header.{word_at}
use Rattle.rept_dump.specs.Dump.{exe_of}
use Rattle.rept_dump.specs.Program.{contents}
use Rattle.rept_dump.specs.declared.dump.Dump.{Dump}
use Rattle.rept_steps.specs.declared.run.Run.{Run}
use Rattle.rept_trace.specs.declared.packet.Packet.{Packet}
use Rattle.rept_trace.specs.declared.fault.TraceFault.{TraceFault}
use Rattle.rept_trace.specs.Grammar.{timed}
use Rattle.rept_trace.specs.Stream.{Stream, Hold, FailsAfter}
use Rattle.rept_trace.specs.Streams.{StreamFile}
use Rattle.rept_path.specs.Code.{Code}
use Rattle.rept_path.specs.declared.fault.PathFault.{PathFault}
use Rattle.rept_path.specs.declared.fault.PathFault.TheVariants as fault
use Rattle.rept_streams.specs.Slices.Checks.{check}
use Rattle.rept_streams.specs.Slices.Joins.{ThreadNote}
use Rattle.rept_streams.specs.Slices.Many.{Traces, IsRunOfStreams, HasNoRunOfStreams}

-- the streams of packets of a file, with times and contexts
abbrev pub streams_of : StreamFile → List Stream
streams_of file = map (λ bytes. record { widths = timed file.halves; bytes = bytes }) file.streams

-- Each stream holds whole packets alone, and these are they.
abbrev pub HoldEach : List Stream → List (List Packet) → Type 0
HoldEach [] lists = lists ≡ []
HoldEach (stream ∷ others) [] = ⊥
HoldEach (stream ∷ others) (packets ∷ lists) = Hold stream packets × HoldEach others lists

-- A packet is refused, in the first stream that has such a one. The first packet of the first
-- stream has this number.
abbrev pub FailsIn : ℕ → List Stream → TraceFault → Type 0
FailsIn k [] refused = ⊥
FailsIn k (stream ∷ others) refused =
    ((packets : List Packet) × FailsAfter k stream packets refused)
    ⊎ ((packets : List Packet) × Hold stream packets × FailsIn (k + length packets) others refused)

-- what the files of a program hold, the file of its traces, the notes of the threads, and the
-- number from which on a window may begin
pub record RawFiles : Type 0 where
  pub contents : Contents
  pub file : StreamFile
  pub notes : List ThreadNote
  pub from : ℕ

-- the code, which may be compressed where the file says so
abbrev pub code_in : RawFiles → Code
code_in f = record { contents = f.contents; halves = f.file.halves }

abbrev pub traces : RawFiles → List (List Packet) → Traces
traces f packets = record { code = code_in f; streams = packets; notes = f.notes; from = f.from }

abbrev pub IsRunOfFiles : RawFiles → Run → Type 0
IsRunOfFiles f run = (packets : List (List Packet)) × HoldEach (streams_of f.file) packets × IsRunOfStreams (traces f packets) run

-- A packet is refused, before all else; or all are whole, and there is no run.
abbrev pub HasNoRun : RawFiles → PathFault → Type 0
HasNoRun f e =
    ((refused : TraceFault) × FailsIn 0 (streams_of f.file) refused × (e ≡ fault.Packet refused))
    ⊎ ((packets : List (List Packet)) × HoldEach (streams_of f.file) packets × HasNoRunOfStreams (traces f packets) e)

-- what is looked at before a row is walked: the file of the traces, the processes of the threads,
-- and the number from which on a window may begin
pub record Looked : Type 0 where
  pub file : StreamFile
  pub processes : List ℕ
  pub from : ℕ

-- Why the streams are refused before a row is walked: a packet is refused, before all else; or all
-- are whole, and a check fails.
abbrev pub IsRefusedBefore : Looked → PathFault → Type 0
IsRefusedBefore l e =
    ((refused : TraceFault) × FailsIn 0 (streams_of l.file) refused × (e ≡ fault.Packet refused))
    ⊎ ((lists : List (List Packet)) × HoldEach (streams_of l.file) lists × (check l.from l.processes lists ≡ Some e))

-- These are all packets, and no check fails.
abbrev pub PassBefore : Looked → List (List Packet) → Type 0
PassBefore l lists = HoldEach (streams_of l.file) lists × (check l.from l.processes lists ≡ None)

-- the note of a thread by its descriptor: `pr_pid`, the thread's own number, at 24, the program
-- counter at 72
abbrev pub note_in : List ℕ → ThreadNote
note_in desc = record { process = word_at desc 24; pc = word_at desc 72 }

-- the streams of a file over the program of a dump with these descriptors of notes
abbrev pub files_of : Dump → StreamFile → List (List ℕ) → ℕ → RawFiles
files_of dump file descs from = record { contents = contents (exe_of dump); file = file; notes = map note_in descs; from = from }
