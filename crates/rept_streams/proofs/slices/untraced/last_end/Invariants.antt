use Rattle.std.proofs.Common.{drop}
use Rattle.rept_streams.proofs.SlicesLemmas.Lasting.{EndsFrom}
use Rattle.rept_streams.proofs.slices.untraced.last_end.Given as goal

abbrev pub invariant-loop-i : goal.invariant-loop-i
invariant-loop-i l = EndsFrom l.time (drop l.i l.slices) l.past l.last
