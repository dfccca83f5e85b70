use Rattle.std.proofs.Common.{length}
use Rattle.rept_trace.specs.Packets.{rest_of}
use Rattle.rept_streams.proofs.SlicesLemmas.Scanning.{Same, time_past}
use Rattle.rept_streams.proofs.slices.scan.time_beyond.Given as goal

abbrev pub invariant-loop-packet : goal.invariant-loop-packet
invariant-loop-packet l = Same time_past (rest_of l.later) (rest_of l.rest)

abbrev pub decreases-loop-packet : goal.decreases-loop-packet
decreases-loop-packet l = length (rest_of l.rest).bytes
