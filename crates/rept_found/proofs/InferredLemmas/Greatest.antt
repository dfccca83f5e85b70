-- The greatest step of which something is told.
use Rattle.std.proofs.Common.{◌≡◌, ◌≢◌, ℕ, zero, suc, ◌+◌, ◌<◌, ◌≤◌, Bool, true, false, Option, None, Some, inl, inr, refl, sym, ap, subst, ◌∙◌, arith}
use Rattle.std.specs.Prelude.{◌==◌}
use Rattle.std.proofs.lemmas.Bool.{cases_eq}
use Rattle.std.proofs.lemmas.Bool.Decides.{nat_tests}
use Rattle.rept_report.specs.declared.writer.Writer.{Writer}
use Rattle.rept_report.specs.declared.writer.Writer.TheVariants as writer
use Rattle.rept_findings.specs.LastWriters.{named_row}
use Rattle.rept_found.specs.Inferred.Writing.{greatest, names_step, or_writer}

same_step : {i j : ℕ} → Some i ≡ Some j → i ≡ j
same_step e = cc

never : {j : ℕ} → None ≡ Some j → ⊥
never e = cc

eq_true : (i j : ℕ) → (i == j) ≡ true → i ≡ j
eq_true i j e = grind (arith, nat_tests, e)

-- a step is named exactly where it is the one
pub names_is : (w : Writer) (j : ℕ) → names_step w j ≡ true → named_row w ≡ Some j
names_is (writer.Writes i) j e = ap Some (eq_true i j e)
names_is (writer.MayWrite i) j e = ap Some (eq_true i j e)
names_is writer.Several j e = let bad : ⊥ = cc in absurd bad
names_is writer.None j e = let bad : ⊥ = cc in absurd bad

pub is_named : (w : Writer) (j : ℕ) → named_row w ≡ Some j → names_step w j ≡ true
is_named (writer.Writes i) j e = let same : i ≡ j = same_step e in grind (arith, nat_tests, same)
is_named (writer.MayWrite i) j e = let same : i ≡ j = same_step e in grind (arith, nat_tests, same)
is_named writer.Several j e = absurd (never e)
is_named writer.None j e = absurd (never e)

pub not_named : (w : Writer) (j : ℕ) → (named_row w ≡ Some j → ⊥) → names_step w j ≡ false
not_named w j other = by (names_step w j) refl
  where
    by : (b : Bool) → names_step w j ≡ b → names_step w j ≡ false
    by true e = absurd (other (names_is w j e))
    by false e = e

module _ (told : ℕ → Option Writer) (named : (j : ℕ) (w : Writer) → told j ≡ Some w → named_row w ≡ Some j) where
  -- it is before the point
  pub below : (p j : ℕ) → named_row (greatest told p) ≡ Some j → j < p
  below zero j e = absurd (never e)
  below (suc k) j e = by (below k j) (told k) refl e
    where
      by : (named_row (greatest told k) ≡ Some j → j < k) → (o : Option Writer) → told k ≡ o → named_row (or_writer o (greatest told k)) ≡ Some j → j < suc k
      by before None is e = let less = before e in omega (arith, less)
      by before (Some w) is e = let same : k ≡ j = same_step (sym (named k w is) ∙ e) in omega (arith, same)

  -- and the greatest at each point since it
  pub kept : (p j q : ℕ) → named_row (greatest told p) ≡ Some j → j < q → q ≤ p → named_row (greatest told q) ≡ Some j
  kept zero j q e low high = absurd (never e)
  kept (suc k) j q e low high = elim (cases_eq q (suc k)) [
    | inl here ↦ subst (λ (n : ℕ). named_row (greatest told n) ≡ Some j) (sym here) e
    | inr ne ↦ by (λ found near. kept k j q found low near) (told k) refl e (omega (arith, high, ne))
  ]
    where
      by : (named_row (greatest told k) ≡ Some j → q ≤ k → named_row (greatest told q) ≡ Some j) → (o : Option Writer) → told k ≡ o → named_row (or_writer o (greatest told k)) ≡ Some j → q ≤ k → named_row (greatest told q) ≡ Some j
      by before None is e near = before e near
      by before (Some w) is e near = let same : k ≡ j = same_step (sym (named k w is) ∙ e) in absurd (omega (arith, same, low, near))

  -- where nothing is told before a point nothing is told before an earlier one
  pub empty : (p q : ℕ) → greatest told p ≡ writer.None → q ≤ p → greatest told q ≡ writer.None
  empty zero q e high = let here : q ≡ 0 = omega (arith, high) in subst (λ (n : ℕ). greatest told n ≡ writer.None) (sym here) refl
  empty (suc k) q e high = elim (cases_eq q (suc k)) [
    | inl here ↦ subst (λ (n : ℕ). greatest told n ≡ writer.None) (sym here) e
    | inr ne ↦ by (λ found near. empty k q found near) (told k) refl e (omega (arith, high, ne))
  ]
    where
      by : (greatest told k ≡ writer.None → q ≤ k → greatest told q ≡ writer.None) → (o : Option Writer) → told k ≡ o → or_writer o (greatest told k) ≡ writer.None → q ≤ k → greatest told q ≡ writer.None
      by before None is e near = before e near
      by before (Some w) is e near = absurd (never (sym (ap named_row e) ∙ named k w is))

-- steps of which nothing is told
pub skip : (told : ℕ → Option Writer) (p j : ℕ) → j < p → ((k : ℕ) → j < k → k < p → told k ≡ None) → greatest told p ≡ greatest told (suc j)
skip told zero j less none = absurd (omega (arith, less))
skip told (suc m) j less none = elim (cases_eq j m) [
  | inl here ↦ subst (λ (n : ℕ). greatest told (suc m) ≡ greatest told (suc n)) (sym here) refl
  | inr ne ↦
      ap (λ (o : Option Writer). or_writer o (greatest told m)) (none m (omega (arith, less, ne)) (omega arith))
      ∙ skip told m j (omega (arith, less, ne)) (λ k low high. none k low (omega (arith, high)))
]

pub silent : (told : ℕ → Option Writer) (p : ℕ) → ((k : ℕ) → k < p → told k ≡ None) → greatest told p ≡ writer.None
silent told zero none = refl
silent told (suc m) none = ap (λ (o : Option Writer). or_writer o (greatest told m)) (none m (omega arith)) ∙ silent told m (λ k less. none k (omega (arith, less)))
