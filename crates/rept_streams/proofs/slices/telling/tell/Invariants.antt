use Rattle.std.proofs.Common.{◌∷◌, length, None}
use Rattle.rept_trace.specs.Packets.{rest_of}
use Rattle.rept_streams.specs.Slices.Parts.{told_from}
use Rattle.rept_streams.proofs.SlicesLemmas.TellLemmas.{Telling}
use Rattle.rept_streams.proofs.slices.telling.tell.Given as goal

abbrev pub invariant-loop-packet : goal.invariant-loop-packet
invariant-loop-packet l = Telling l.stream (λ list. told_from l.stream l.fn.number None (l.fn.start ∷ list)) (rest_of l.fn.later) l.fn.entries.items l.k l.inside (rest_of l.rest) l.entries.items

abbrev pub decreases-loop-packet : goal.decreases-loop-packet
decreases-loop-packet l = length (rest_of l.rest).bytes
