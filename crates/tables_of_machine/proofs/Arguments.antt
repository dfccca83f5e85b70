-- Ranges of the six arguments of a call.
use Rattle.std.proofs.Common.{◌≡◌, ℕ, ◌+◌, ◌-◌, ◌<◌, List, subst, arith, below_more, below_none}
use Rattle.rept_partial.specs.declared.range.Range.{Range}
use Rattle.rept_havoc.specs.Havoc.{argument, AreExact, IsExact}

-- What holds of x10 to x15, by how far each is from x10, holds of each of them.
pub all_exact : (args : List Range) (register : ℕ → ℕ) → ((k : ℕ) → k < 6 → IsExact (argument args (10 + k)) (register (10 + k))) → AreExact (argument args) register
all_exact args register each r from to =
    let same : 10 + (r - 10) ≡ r = omega arith in
    subst (λ s. IsExact (argument args s) (register s)) same (each (r - 10) (omega arith))

-- the six of them
pub six : (P : ℕ → Type 0) → P 0 → P 1 → P 2 → P 3 → P 4 → P 5 → (k : ℕ) → k < 6 → P k
six P a b c d e f = below_more P 5 (below_more P 4 (below_more P 3 (below_more P 2 (below_more P 1 (below_more P 0 (below_none P) a) b) c) d) e) f
