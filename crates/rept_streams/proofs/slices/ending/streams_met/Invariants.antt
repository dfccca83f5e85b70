use Rattle.std.proofs.Common.{drop}
use Rattle.rept_streams.proofs.SlicesLemmas.Free.{FreeFrom}
use Rattle.rept_streams.proofs.slices.ending.streams_met.Given as goal

abbrev pub invariant-loop-i : goal.invariant-loop-i
invariant-loop-i l = FreeFrom l.fn.prefix (drop l.i l.slices) l.past l.met.items
