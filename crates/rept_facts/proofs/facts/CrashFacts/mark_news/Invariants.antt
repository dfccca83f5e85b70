use Rattle.rept_timeline.specs.Paths.{timeline}
use Rattle.std.proofs.Common.{◌≡◌, ◌+◌, ◌≤◌, ℕ, length}
use Rattle.rept_reason.specs.Facts.{told}
use Rattle.rept_span.specs.Filled.{SameAt}
use Rattle.rept_span.specs.Points.{HasPoint}
use Rattle.rept_report.specs.Log.{oldest}
use Rattle.rept_facts.proofs.facts.CrashFacts.mark_news.Given as goal

abbrev pub invariant-loop-place : goal.invariant-loop-place
invariant-loop-place g l = record {
  long : length l.points ≡ (timeline l.self.paths).legs.count + 1;
  news : (p : ℕ) → p ≤ (timeline l.self.paths).legs.count → (HasPoint l.points p → ⊥) → SameAt (told (oldest l.self.filled l.self.known.log)) (told (oldest l.place l.self.known.log)) p;
}
