use Rattle.std.proofs.Common.{◌≡◌, ℕ, ◌≤◌, Some}
use Rattle.rept_versions.specs.Listed.{fact_in}
use Rattle.rept_versions.proofs.plain_facts.PlainFacts.first_of.Given as goal

abbrev pub invariant-loop-first : goal.invariant-loop-first
invariant-loop-first l = record {
  ordered : l.first ≤ l.point;
  value : (q : ℕ) → l.first ≤ q → q ≤ l.point → fact_in l.self.entries q l.a ≡ Some l.value;
}

abbrev pub decreases-loop-first : goal.decreases-loop-first
decreases-loop-first l = l.first
