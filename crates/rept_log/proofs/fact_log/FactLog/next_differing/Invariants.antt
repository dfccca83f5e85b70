use Rattle.std.proofs.Common.{ℕ, ◌<◌, ◌≤◌}
use Rattle.rept_log.specs.Compared.{IsSameAfter}
use Rattle.rept_log.proofs.fact_log.FactLog.next_differing.Given as goal

abbrev pub invariant-loop-number : goal.invariant-loop-number
invariant-loop-number g l = (s : ℕ) → l.least ≤ s → s < l.number → IsSameAfter l.self.log l.point s
