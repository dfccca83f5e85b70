use Rattle.std.proofs.Common.{◌-◌}
use Rattle.rept_span.specs.Ranges.{way_along}
use Rattle.rept_span.proofs.Refilling.{Refilled}
use Rattle.rept_span.proofs.spans.Spans.fill_since.Given as goal

abbrev pub invariant-loop-point : goal.invariant-loop-point
invariant-loop-point g l = Refilled (way_along g.W.Partial.sets g.W.Transfer.moves (g.L.Trail.legs l.trail)) (g.F.RegFacts.knows l.facts) l.fn.self l.self l.fn.changes.points l.changes.points l.from

abbrev pub decreases-loop-point : goal.decreases-loop-point
decreases-loop-point g l = l.fn.self.points - l.from
