-- Which number is next to one, of one thread.
use Rattle.std.proofs.Common.{◌≡◌, ℕ, ◌+◌, ◌<◌, ◌≤◌, ◌⊎◌, eqb, nat_lt, true, List, [], ◌∷◌, ◌++◌, inl, inr, sym, subst, arith}
use Rattle.std.specs.List.{Contains}
use Rattle.std.proofs.lemmas.Bool.{and_parts, and_from, eq-eqb, eqb-true, lt-ltb, ltb-true}
use Rattle.std.proofs.lemmas.List.Elements.{Contains-append_left, Contains-push, Contains-push_cases}
use Rattle.rept_report.specs.Moments.{Moments, points_of}
use Rattle.rept_moments.specs.Seen.{AddsNexts}

next_is : (n m w : ℕ) → (points_of n).next m w ≡ true → (m < n) × (w ≡ m + 1)
next_is n m w e = let parts = and_parts (nat_lt m n) (eqb w (m + 1)) e in (ltb-true m n parts.0, eqb-true w (m + 1) parts.1)

pub alone_some : (n m : ℕ) (old new : List ℕ) → m < n → new ≡ old ++ (m + 1) ∷ [] → AddsNexts (points_of n) m old new
alone_some n m old new less same = subst (λ (xs : List ℕ). AddsNexts (points_of n) m old xs) (sym same) (λ w. (forth w, back w))
  where
    forth : (w : ℕ) → Contains (old ++ (m + 1) ∷ []) w → Contains old w ⊎ ((points_of n).next m w ≡ true)
    forth w h =
        elim (Contains-push_cases old (m + 1) w h) [
          | inl k ↦ inl k
          | inr e ↦ inr (and_from (nat_lt m n) (eqb w (m + 1)) (lt-ltb m n less) (eq-eqb w (m + 1) (sym e)))
        ]

    back : (w : ℕ) → Contains old w ⊎ ((points_of n).next m w ≡ true) → Contains (old ++ (m + 1) ∷ []) w
    back w (inl k) = Contains-append_left old ((m + 1) ∷ []) w k
    back w (inr e) = let its = next_is n m w e in subst (λ (k : ℕ). Contains (old ++ (m + 1) ∷ []) k) (sym its.1) (Contains-push old (m + 1))

pub alone_none : (n m : ℕ) (old : List ℕ) → n ≤ m → AddsNexts (points_of n) m old old
alone_none n m old past w = (λ h. inl h, back)
  where
    back : Contains old w ⊎ ((points_of n).next m w ≡ true) → Contains old w
    back (inl k) = k
    back (inr e) = let its = next_is n m w e in let less = its.0 in absurd (omega arith)
