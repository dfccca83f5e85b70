use Rattle.rept_timeline.specs.Paths.{timeline}
use Rattle.std.proofs.Common.{◌≡◌, ◌-◌}
use Rattle.rept_report.proofs.OriginLemmas.Carrying.{AreSparedBelow}
use Rattle.rept_timeline.proofs.origin.bridges.Bridges.is_spared.Given as goal

abbrev pub invariant-loop-least : goal.invariant-loop-least
invariant-loop-least g l = record {
  before : AreSparedBelow (timeline l.self.paths.now) (g.S.Sources.byte l.self.sources.now) l.number l.next l.least;
  count : l.count ≡ (timeline l.self.paths.now).legs.count;
}

abbrev pub decreases-loop-least : goal.decreases-loop-least
decreases-loop-least g l = l.count - l.least
