use Rattle.std.proofs.Common.{length}
use Rattle.rept_trace.specs.Packets.{rest_of}
use Rattle.rept_streams.proofs.SlicesLemmas.Backs.{Back}
use Rattle.rept_streams.proofs.slices.back.time_back.Given as goal

abbrev pub invariant-loop-packet : goal.invariant-loop-packet
invariant-loop-packet l = Back (rest_of l.packets) l.number (rest_of l.rest) l.k l.latest

abbrev pub decreases-loop-packet : goal.decreases-loop-packet
decreases-loop-packet l = length (rest_of l.rest).bytes
