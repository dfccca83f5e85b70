-- The path of a trace file of one stream (Efficient Trace for RISC-V 2.0) over an executable.
use Rattle.std.specs.Prelude.{◌≡◌, ◌⊎◌, ℕ, List, ◌++◌, Bool}
use Rattle.rept_dump.specs.Program.{contents}
use Rattle.rept_trace.specs.Header.{one_stream, IsHeaderFault}
use Rattle.rept_trace.specs.Stream.{header, plain}
use Rattle.rept_trace.specs.declared.fault.TraceFault.{TraceFault}
use Rattle.rept_path.specs.Traced.{RawRun, IsTracedPath, IsUntraced}
use Rattle.rept_path.specs.declared.fault.PathFault.{PathFault}
use Rattle.rept_path.specs.declared.fault.PathFault.TheVariants.{Packet}
use Rattle.rept_path.specs.declared.rebuilding.Path.{Path}
use Rattle.rept_found.specs.Crash.{Crash, end_pc, note_at}

-- a trace file of one stream: whether code may be compressed, and the bytes of its packets
pub record TraceFile : Type 0 where
  pub halves : Bool
  pub bytes : List ℕ

abbrev pub file_bytes : TraceFile → List ℕ
file_bytes file = header file.halves ++ file.bytes

-- the run that it tells of an executable, from the packet of a number on to the program counter of
-- the first register note
abbrev pub raw_run_of : Crash → TraceFile → ℕ → RawRun
raw_run_of crash file from = record { code = record { contents = contents crash.exe; halves = file.halves }; stream = plain file.halves file.bytes; from = from; pc = end_pc (note_at crash 0) }

-- The file begins with the trace's header, and the packets after it have this path over the
-- executable: from the first packet of that number or a later one from which a path may begin, to
-- the program counter of the register note.
abbrev pub IsTracePath : Crash → List ℕ → ℕ → Path → Type 0
IsTracePath crash trace from path = (file : TraceFile) × (trace ≡ file_bytes file) × IsTracedPath (raw_run_of crash file from) path.skipped path.steps

-- The file doesn't begin with the header; or a packet is refused; or the packets have no path to
-- the program counter.
abbrev pub HasNoPath : Crash → List ℕ → ℕ → PathFault → Type 0
HasNoPath crash trace from fault =
    ((refused : TraceFault) × IsHeaderFault one_stream trace refused × (fault ≡ Packet refused))
    ⊎ ((file : TraceFile) × (trace ≡ file_bytes file) × IsUntraced (raw_run_of crash file from) 0 fault)
