use Rattle.std.proofs.Common.{◌∷◌, length}
use Rattle.rept_trace.specs.Packets.{rest_of}
use Rattle.rept_streams.proofs.SlicesLemmas.KeepLemmas.{Passing}
use Rattle.rept_streams.proofs.slices.keeping.begin_from.Given as goal

abbrev pub invariant-loop-packet : goal.invariant-loop-packet
invariant-loop-packet l = Passing l.time l.fn.begin.number (λ list. l.fn.begin.first ∷ list) (rest_of l.fn.begin.later) l.number (rest_of l.rest)

abbrev pub decreases-loop-packet : goal.decreases-loop-packet
decreases-loop-packet l = length (rest_of l.rest).bytes
