-- A range by its bounds.
use Rattle.std.proofs.Common.{◌≡◌, ◌<◌, ◌≤◌, ◌^◌, ℕ, min, max, arith, refl, subst, ap, Some, nat_le, true, ◌∙◌}
use Rattle.std.proofs.Math.Bridge.{le_prop}
use Rattle.rept_partial.specs.declared.range.Range.{Range}
use Rattle.rept_partial.specs.Ranges.{from_to, word, range_meet, bounded}

-- a range's proofs are alike
same_proofs : (lo hi : ℕ) (o p : lo ≤ hi) (s q : hi < 2 ^ 32) → bounded lo hi o s ≡ bounded lo hi p q
same_proofs lo hi o p s q = ap (λ (x : lo ≤ hi). bounded lo hi x s) (le_prop o p) ∙ ap (λ (x : hi < 2 ^ 32). bounded lo hi p x) (le_prop s q)

same_bounds : (lo hi l h : ℕ) (o : lo ≤ hi) (s : hi < 2 ^ 32) (p : l ≤ h) (q : h < 2 ^ 32) → lo ≡ l → hi ≡ h → bounded lo hi o s ≡ bounded l h p q
same_bounds lo hi l h o s p q e f =
    subst (λ (y : ℕ). (p : l ≤ y) (q : y < 2 ^ 32) → bounded lo hi o s ≡ bounded l y p q) f (subst (λ (x : ℕ). (p : x ≤ hi) (q : hi < 2 ^ 32) → bounded lo hi o s ≡ bounded x hi p q) e (λ p q. same_proofs lo hi o p s q)) p q

-- proper bounds are taken as they are
pub from_to_is : (lo hi : ℕ) (o : lo ≤ hi) (s : hi < 2 ^ 32) → bounded lo hi o s ≡ from_to lo hi
from_to_is lo hi o s = let r = from_to lo hi in same_bounds lo hi (min (word lo) (word hi)) (word hi) o s r.ordered r.small (grind (arith, o, s)) (omega arith)

-- the common values of two ranges that have one
pub met_is : (a b : Range) (lo hi : ℕ) (o : lo ≤ hi) (s : hi < 2 ^ 32) → lo ≡ max a.lo b.lo → hi ≡ min a.hi b.hi → Some (bounded lo hi o s) ≡ range_meet a b
met_is a b lo hi o s e f =
    let t : nat_le (max a.lo b.lo) (min a.hi b.hi) ≡ true = grind (arith, o, e, f) in
    rw t (ap (λ (r : Range). Some r) (from_to_is lo hi o s ∙ rw (← e, ← f) refl))
