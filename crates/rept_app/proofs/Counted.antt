-- Counts of faults.
use Rattle.std.proofs.Common.{◌≡◌, ◌⊎◌, ℕ, ◌+◌, ◌≤◌, Bool, true, false, inl, inr, refl, arith, nat_eq}
use Rattle.std.proofs.lemmas.Bool.Decides.{nat_tests}
use Rattle.rept_ports.specs.Causes.{Rose, OneFault}

-- a count that rose by at most one stands as it was, or one fault was counted
pub counted : (before now : ℕ) → before ≤ now → now ≤ before + 1 → (now ≡ before) ⊎ OneFault before now
counted before now later once = by_test (nat_eq now before) refl
  where
    same : nat_eq now before ≡ true → now ≡ before
    same e = grind (arith, nat_tests)

    risen : nat_eq now before ≡ false → Rose before now
    risen e = grind (arith, nat_tests)

    by_test : (b : Bool) → nat_eq now before ≡ b → (now ≡ before) ⊎ OneFault before now
    by_test true e = inl (same e)
    by_test false e = inr (record { rose = risen e; later = later; once = once })
