-- The least number that a list of numbers and values has in a range.
use Rattle.std.proofs.Common.{◌≡◌, ℕ, suc, ◌+◌, ◌<◌, ◌≤◌, Bool, true, false, cond, List, [], ◌∷◌, length, slice_get, Option, Some, None, refl, sym, ◌∙◌, ap, subst, inl, inr, arith}
use Rattle.std.specs.Prelude.{nat_eq}
use Rattle.std.proofs.lemmas.Option.{slice_get_within}
use Rattle.std.proofs.lemmas.Bool.{eqb-true}
use Rattle.rept_versions.specs.Listed.{listed, LeastOf, Leasts}
use Rattle.rept_versions.proofs.Lines.{same_or}

-- a number that no entry has isn't listed
pub unlisted : (entries : List (ℕ × ℕ)) (k : ℕ) → ((i v : ℕ) → slice_get entries i ≡ Some (k, v) → ⊥) → listed entries k ≡ None
unlisted [] k none = refl
unlisted (e ∷ es) k none = by (nat_eq k e.0) refl (unlisted es k (λ i v h. none (suc i) v h))
  where
    by : (b : Bool) → nat_eq k e.0 ≡ b → listed es k ≡ None → listed (e ∷ es) k ≡ None
    by true is rest = absurd (none 0 e.1 (ap (λ x. Some (x, e.1)) (sym (eqb-true k e.0 is))))
    by false is rest = ap (λ b. cond b (Some e.1) (listed es k)) is ∙ rest

pub leasts : (entries : List (ℕ × ℕ)) (count low high : ℕ) (r : Option ℕ) → count ≡ length entries → LeastOf entries count low high r → Leasts entries low high r
leasts entries count low high None all l = λ k over under. unlisted entries k (λ i v is. l i k v (omega (arith, all, slice_get_within entries i (k, v) is)) is over under)
leasts entries count low high (Some least) all l = (l.0, l.1, l.2, λ k over under. unlisted entries k (λ i v is. omega (arith, under, l.3 i k v (omega (arith, all, slice_get_within entries i (k, v) is)) is over (omega (arith, under, l.1)))))

module _ (entries : List (ℕ × ℕ)) (count low high k v : ℕ) (at : slice_get entries count ≡ Some (k, v)) where
  same_key : (j w : ℕ) → slice_get entries count ≡ Some (j, w) → j ≡ k
  same_key j w is = grind (arith, sym at ∙ is)

  pub least_first : listed entries k ≡ Some v → low ≤ k → k ≤ high → LeastOf entries count low high None → LeastOf entries (count + 1) low high (Some k)
  least_first has over under l = (
    over,
    under,
    (v, has),
    λ i j w lt is from to. elim (same_or i count) [
      | inl e ↦ omega (arith, same_key j w (subst (λ x. slice_get entries x ≡ Some (j, w)) e is))
      | inr ne ↦ absurd (l i j w (omega (arith, lt, ne)) is from to)
    ],
  )

  pub least_less : (least : ℕ) → listed entries k ≡ Some v → low ≤ k → k ≤ high → k < least → LeastOf entries count low high (Some least) → LeastOf entries (count + 1) low high (Some k)
  least_less least has over under less l = (
    over,
    under,
    (v, has),
    λ i j w lt is from to. elim (same_or i count) [
      | inl e ↦ omega (arith, same_key j w (subst (λ x. slice_get entries x ≡ Some (j, w)) e is))
      | inr ne ↦ omega (arith, less, l.3 i j w (omega (arith, lt, ne)) is from to)
    ],
  )
