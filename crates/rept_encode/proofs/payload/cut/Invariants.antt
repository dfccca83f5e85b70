use Rattle.std.proofs.Common.{◌<◌, ◌≤◌, length, take}
use Rattle.rept_trace.specs.declared.packet.Packet.{Packet}
use Rattle.rept_trace.specs.declared.parameters.Parameters.{Parameters}
use Rattle.rept_trace.specs.Grammar.{IsPacket}
use Rattle.rept_encode.proofs.payload.cut.Given as goal

abbrev pub invariant-loop-size : goal.invariant-loop-size
invariant-loop-size l = record {
  some : 0 < l.size;
  within : l.size ≤ length l.payload;
  spells : (widths : Parameters) (packet : Packet) → IsPacket widths l.payload packet → IsPacket widths (take l.size l.payload) packet;
}

abbrev pub decreases-loop-size : goal.decreases-loop-size
decreases-loop-size l = l.size
