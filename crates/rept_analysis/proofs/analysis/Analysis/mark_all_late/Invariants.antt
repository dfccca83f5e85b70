use Rattle.std.proofs.Common.{◌≡◌, ◌-◌, length}
use Rattle.rept_analysis.proofs.analysis.Analysis.mark_all_late.Given as goal

abbrev pub invariant-loop-point : goal.invariant-loop-point
invariant-loop-point g l = l.self.propagation.facts ≡ l.fn.self.propagation.facts

abbrev pub decreases-loop-point : goal.decreases-loop-point
decreases-loop-point g l = length l.points - l.from
