use Rattle.rept_versions.specs.Listed.{LeastOf}
use Rattle.rept_versions.proofs.plain_facts.PlainFacts.least.Given as goal

abbrev pub invariant-loop-i : goal.invariant-loop-i
invariant-loop-i l = LeastOf l.self.entries l.i l.low l.high l.least
