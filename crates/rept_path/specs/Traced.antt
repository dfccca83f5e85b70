-- The path of a trace file over a dump, and why there is none.
use Rattle.std.specs.Prelude.{◌≡◌, ◌⊎◌, ℕ, List}
use Rattle.rept_path.specs.Code.{Code}
use Rattle.rept_isa.specs.declared.row.StepRow.{StepRow}
use Rattle.rept_dump.specs.declared.dump.Dump.{Dump}
use Rattle.rept_path.specs.declared.program.Program.{Program}
use Rattle.rept_path.specs.Program.{code_of}
use Rattle.rept_dump.specs.Dump.{exe_of, registers_of}
use Rattle.rept_dump.specs.Program.{contents}
use Rattle.rept_dump.specs.Registers.{saved_pc}
use Rattle.rept_trace.specs.declared.packet.Packet.{Packet}
use Rattle.rept_trace.specs.declared.packets.Packets.{Packets}
use Rattle.rept_trace.specs.declared.fault.TraceFault.{TraceFault}
use Rattle.rept_trace.specs.Packets.{rest_of, number_of}
use Rattle.rept_trace.specs.Stream.{Stream, Hold, FailsAfter}
use Rattle.rept_path.specs.declared.fault.PathFault.{PathFault}
use Rattle.rept_path.specs.declared.fault.PathFault.TheVariants as fault
use Rattle.rept_path.specs.Trace.{TracedRun, IsPath, HasNoPathOfPackets}

-- the program counter of a dump, as its register note holds it
abbrev pub pc_of : Dump → ℕ
pc_of dump = saved_pc (registers_of dump)

-- a traced run whose packets are a stream of bytes: the program, the stream, the number from which
-- on the window may begin, and the program counter at the end
pub record RawRun : Type 0 where
  pub code : Code
  pub stream : Stream
  pub from : ℕ
  pub pc : ℕ

-- the run of these packets
abbrev pub with_packets : RawRun → List Packet → TracedRun
with_packets raw list = record { code = raw.code; packets = list; from = raw.from; pc = raw.pc }

-- The stream holds whole packets, and this is their path over the program to the end.
abbrev pub IsTracedPath : RawRun → ℕ → List StepRow → Type 0
IsTracedPath raw skipped path = (list : List Packet) × Hold raw.stream list × IsPath (with_packets raw list) skipped path

-- A packet is refused, of which the first has this number. Or all are whole, and they have no path
-- to the end.
abbrev pub IsUntraced : RawRun → ℕ → PathFault → Type 0
IsUntraced raw number e =
    ((list : List Packet) × (refused : TraceFault) × FailsAfter number raw.stream list refused × (e ≡ fault.Packet refused))
    ⊎ ((list : List Packet) × Hold raw.stream list × HasNoPathOfPackets (with_packets raw list) e)

-- the code of a dump's program, which may be compressed where the packets say so
abbrev pub code_over : Packets → Dump → Code
code_over packets dump = record { contents = contents (exe_of dump); halves = (rest_of packets).widths.halves }

-- the run of the packets that are left, over the program of a dump to its program counter
abbrev pub raw_of : Packets → Dump → ℕ → RawRun
raw_of packets dump from = record { code = code_over packets dump; stream = rest_of packets; from = from; pc = pc_of dump }

-- the same of a program as the walk has it
abbrev pub raw_by : Packets → Program → ℕ → RawRun
raw_by packets program from = record { code = code_of program; stream = rest_of packets; from = from; pc = pc_of program.dump }

-- The packets that are left are no path of it, and this is why.
abbrev pub IsRefusedBy : Packets → Dump → ℕ → PathFault → Type 0
IsRefusedBy packets dump from e = IsUntraced (raw_of packets dump from) (number_of packets) e
