use Rattle.std.proofs.Common.{◌≡◌, ◌∷◌, ◌+◌, ◌<◌, ◌^◌, List, length}
use Rattle.rept_path.specs.Program.{code_of}
use Rattle.rept_trace.specs.declared.packet.Packet.{Packet}
use Rattle.rept_trace.specs.Packets.{rest_of}
use Rattle.rept_trace.specs.Stream.{Hold}
use Rattle.rept_path.specs.Route.{alone}
use Rattle.rept_path.proofs.Packeting.{Going}
use Rattle.rept_path.proofs.rebuilding.walk_over.Given as goal

abbrev pub invariant-loop-packet : goal.invariant-loop-packet
invariant-loop-packet l = (code_of l.near ≡ code_of l.program) × (later : List Packet) × Hold (rest_of l.begin.later) later × (l.begin.number + 1 + length later < 2 ^ 32) × Going (code_of l.program) (alone l.begin.number) (l.begin.first ∷ later) l.number (rest_of l.rest) l.walk

abbrev pub decreases-loop-packet : goal.decreases-loop-packet
decreases-loop-packet l = length (rest_of l.rest).bytes
