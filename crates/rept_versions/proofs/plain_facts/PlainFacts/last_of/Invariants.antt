use Rattle.std.proofs.Common.{◌≡◌, ℕ, ◌-◌, ◌≤◌, Some}
use Rattle.rept_versions.specs.Listed.{fact_in}
use Rattle.rept_versions.proofs.plain_facts.PlainFacts.last_of.Given as goal

abbrev pub invariant-loop-last : goal.invariant-loop-last
invariant-loop-last l = record {
  ordered : l.point ≤ l.last;
  value : (q : ℕ) → l.point ≤ q → q ≤ l.last → fact_in l.self.entries q l.a ≡ Some l.value;
}

abbrev pub decreases-loop-last : goal.decreases-loop-last
decreases-loop-last l = 4294967295 - l.last
