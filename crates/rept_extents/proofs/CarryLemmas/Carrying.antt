-- The least number of which something holds, found among those of which something wider does.
use Rattle.std.proofs.Common.{◌≡◌, ℕ, ◌+◌, ◌<◌, ◌≤◌, Option, Some, None, inl, inr, subst, arith}
use Rattle.rept_report.specs.Timeline.{IsLeastFrom, IsGreatestTo}

pub least_same : (P Q : ℕ → Type 0) → ((w : ℕ) → P w → Q w) → ((w : ℕ) → Q w → P w) → (least : ℕ) (r : Option ℕ) → IsLeastFrom P least r → IsLeastFrom Q least r
least_same P Q onward back least None its = λ w low q. its w low (back w q)
least_same P Q onward back least (Some m) its = (onward m its.0, its.1, λ v low less q. its.2 v low less (back v q))

pub greatest_same : (P Q : ℕ → Type 0) → ((w : ℕ) → P w → Q w) → ((w : ℕ) → Q w → P w) → (most : ℕ) (r : Option ℕ) → IsGreatestTo P most r → IsGreatestTo Q most r
greatest_same P Q onward back most None its = λ w low q. its w low (back w q)
greatest_same P Q onward back most (Some m) its = (onward m its.0, its.1, λ v over low q. its.2 v over low (back v q))
