use Rattle.std.proofs.Common.{◌-◌, ◌≤◌, ℕ}
use Rattle.rept_word.specs.Number.{IsAllOnes}
use Rattle.rept_word.proofs.number.cover.Given as goal

abbrev pub invariant-loop-ones : goal.invariant-loop-ones
invariant-loop-ones l = record { form : IsAllOnes l.ones; least : (n : ℕ) → IsAllOnes n → l.v ≤ n → l.ones ≤ n }

abbrev pub decreases-loop-ones : goal.decreases-loop-ones
decreases-loop-ones l = l.v - l.ones
