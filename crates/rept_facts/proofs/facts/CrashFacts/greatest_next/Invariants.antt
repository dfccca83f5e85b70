use Rattle.rept_timeline.specs.Paths.{timeline}
use Rattle.std.proofs.Common.{◌≡◌, ◌≤◌, ◌+◌, ◌-◌}
use Rattle.rept_facts.proofs.facts.CrashFacts.greatest_next.Given as goal

abbrev pub invariant-loop-least : goal.invariant-loop-least
invariant-loop-least g l = record {
  end_is : l.end ≡ (timeline l.self.paths).moments.end;
  inside : l.found ≤ (timeline l.self.paths).moments.end;
}

abbrev pub decreases-loop-least : goal.decreases-loop-least
decreases-loop-least g l = l.end + 1 - l.least
