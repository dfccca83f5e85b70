use Rattle.rept_timeline.specs.Paths.{timeline}
use Rattle.std.proofs.Common.{◌≡◌, ◌-◌}
use Rattle.rept_log.specs.Fronts.{basis_of, front_of, AreNotInferredBefore}
use Rattle.rept_log.proofs.front.Front.inferred_before.Given as goal

abbrev pub invariant-loop-least : goal.invariant-loop-least
invariant-loop-least g l = record {
  before : AreNotInferredBefore (front_of g.W.Partial.sets g.W.Transfer.moves g.R.RowRules.rules (basis_of l.self)) l.least l.fact;
  count : l.count ≡ (timeline l.self.paths).legs.count;
}

abbrev pub decreases-loop-least : goal.decreases-loop-least
decreases-loop-least g l = l.count - l.least
