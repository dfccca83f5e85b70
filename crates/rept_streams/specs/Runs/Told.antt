-- The run that a trace of several streams tells of a program and of the threads of its core file.
-- This project's own.
use Rattle.std.specs.Prelude.{◌≡◌, ◌⊎◌, ◌≤◌, ℕ, List, length, map, None}
use Rattle.rept_dump.specs.Dump.{exe_of}
use Rattle.rept_dump.specs.Program.{Program, contents}
use Rattle.rept_dump.specs.Registers.{most_threads, first_twin, pid_of, saved_pc}
use Rattle.rept_dump.specs.declared.dump.Dump.{Dump}
use Rattle.rept_steps.specs.declared.run.Run.{Run}
use Rattle.rept_trace.specs.Streams.{StreamFile, AreStreams, AreNoStreams}
use Rattle.rept_trace.specs.declared.fault.TraceFault.{TraceFault}
use Rattle.rept_path.specs.declared.fault.PathFault.{PathFault}
use Rattle.rept_path.specs.declared.fault.PathFault.TheVariants.{Packet}
use Rattle.rept_streams.specs.Slices.Raw.{RawFiles, note_in, code_in, IsRunOfFiles, HasNoRun}
use Rattle.rept_streams.specs.Runs.Calls.{entered}

-- what a run is told by: the files of the program, the descriptors of the register notes, one of
-- each thread, the bytes of the trace, and the number of the packet of each stream from which on
-- its window may begin
pub record Traced : Type 0 where
  pub program : Program
  pub notes : List (List ℕ)
  pub trace : List ℕ
  pub from : ℕ

-- of the program of a dump
abbrev pub traced : Dump → List (List ℕ) → List ℕ → ℕ → Traced
traced dump descs trace from = record { program = exe_of dump; notes = descs; trace = trace; from = from }

-- with what the trace is a file of
abbrev pub files_in : Traced → StreamFile → RawFiles
files_in t file = record { contents = contents t.program; file = file; notes = map note_in t.notes; from = t.from }

-- The packets tell a run of threads that end at these program counters, and this is that run with
-- the calls in which threads stand as their rows begin.
abbrev pub IsEnteredRun : RawFiles → List ℕ → Run → Type 0
IsEnteredRun f pcs run = (told : Run) × IsRunOfFiles f told × (run ≡ entered (code_in f) pcs told)

-- The trace is a file of streams, and they tell this run.
abbrev pub IsTracedRun : Traced → Run → Type 0
IsTracedRun t run = (file : StreamFile) × AreStreams t.trace file × IsEnteredRun (files_in t file) (map saved_pc t.notes) run

-- The trace is no file of streams, and this is why; or it is one, and this is why they tell no run.
abbrev pub HasNoTracedRun : Traced → PathFault → Type 0
HasNoTracedRun t fault =
    ((refused : TraceFault) × AreNoStreams t.trace refused × (fault ≡ Packet refused))
    ⊎ ((file : StreamFile) × AreStreams t.trace file × HasNoRun (files_in t file) fault)

-- the notes of few threads, no two of one process
pub record AreNotesApart (descs : List (List ℕ)) : Type 0 where
  pub few : length descs ≤ most_threads
  pub apart : first_twin (map pid_of descs) ≡ None
