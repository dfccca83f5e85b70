use Rattle.rept_timeline.specs.Paths.{timeline}
use Rattle.std.proofs.Common.{◌≡◌, ◌+◌, ◌-◌, ◌<◌, ◌≤◌, ℕ, false}
use Rattle.rept_report.proofs.OriginLemmas.Carrying.{carries}
use Rattle.rept_timeline.proofs.origin.bridges.Bridges.beside_from.Given as goal

abbrev pub invariant-loop-from : goal.invariant-loop-from
invariant-loop-from g l = record {
  up : l.least ≤ l.from;
  before : (w : ℕ) → l.least ≤ w → w < l.from → carries (timeline l.self.paths.now) (g.S.Sources.byte l.self.sources.now) l.number l.way w ≡ false;
  end : l.end ≡ (timeline l.self.paths.now).moments.end;
}

abbrev pub decreases-loop-from : goal.decreases-loop-from
decreases-loop-from g l = l.end + 1 - l.from
