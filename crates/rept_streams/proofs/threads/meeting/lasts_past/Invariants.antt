use Rattle.std.proofs.Common.{length}
use Rattle.rept_trace.specs.Packets.{rest_of}
use Rattle.rept_streams.proofs.SlicesLemmas.Lasting.{lasts}
use Rattle.rept_streams.proofs.SlicesLemmas.Scanning.{Same}
use Rattle.rept_streams.proofs.threads.meeting.lasts_past.Given as goal

abbrev pub invariant-loop-packet : goal.invariant-loop-packet
invariant-loop-packet l = Same (lasts l.time) (rest_of l.later) (rest_of l.rest)

abbrev pub decreases-loop-packet : goal.decreases-loop-packet
decreases-loop-packet l = length (rest_of l.rest).bytes
