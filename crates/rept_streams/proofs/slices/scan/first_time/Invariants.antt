use Rattle.std.proofs.Common.{length}
use Rattle.rept_trace.specs.Packets.{rest_of}
use Rattle.rept_streams.specs.Slices.Parts.{first_time}
use Rattle.rept_streams.proofs.SlicesLemmas.Scanning.{Same}
use Rattle.rept_streams.proofs.slices.scan.first_time.Given as goal

abbrev pub invariant-loop-packet : goal.invariant-loop-packet
invariant-loop-packet l = Same first_time (rest_of l.packets) (rest_of l.rest)

abbrev pub decreases-loop-packet : goal.decreases-loop-packet
decreases-loop-packet l = length (rest_of l.rest).bytes
