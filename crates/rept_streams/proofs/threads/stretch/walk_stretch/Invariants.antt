use Rattle.std.proofs.Common.{◌≡◌, ◌+◌, ◌<◌, ◌^◌, List, length}
use Rattle.rept_path.specs.Program.{code_of}
use Rattle.rept_trace.specs.declared.packet.Packet.{Packet}
use Rattle.rept_trace.specs.Packets.{rest_of}
use Rattle.rept_trace.specs.Stream.{Hold}
use Rattle.rept_streams.proofs.SlicesLemmas.Going.{Going}
use Rattle.rept_streams.proofs.threads.stretch.walk_stretch.Given as goal

abbrev pub invariant-loop-packet : goal.invariant-loop-packet
invariant-loop-packet l = (code_of l.near ≡ code_of l.program) × (later : List Packet) × Hold (rest_of l.head.later) later × (l.head.number + 1 + length later < 2 ^ 32) × Going (code_of l.program) (record { number = l.head.number; room = l.room }) (record { first = l.head.first; later = later }) l.number (rest_of l.rest) l.walk l.marks.items

abbrev pub decreases-loop-packet : goal.decreases-loop-packet
decreases-loop-packet l = length (rest_of l.rest).bytes
