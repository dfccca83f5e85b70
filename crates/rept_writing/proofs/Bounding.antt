-- The bounds of one row more, and of a row in the place of another one.
use Rattle.std.proofs.Common.{◌≡◌, ℕ, ◌+◌, ◌/◌, ◌<◌, ◌≤◌, Bool, true, List, length, get_or, inl, inr, sym, ◌∙◌, ap, subst, arith}
use Rattle.std.specs.Prelude.{set}
use Rattle.std.proofs.lemmas.Bool.{cases_lt, cases_eq}
use Rattle.rept_alias.specs.Accesses.{call_hits}
use Rattle.rept_writing.specs.declared.bounds.StoreBounds.{StoreBounds}
use Rattle.rept_writing.specs.declared.list.Writing.{Writing}
use Rattle.rept_writing.specs.declared.narrow.Hit.{Hit}
use Rattle.rept_writing.specs.Hits.{hits_at, writing_hits}
use Rattle.rept_writing.specs.Filed.{IsFiled}
use Rattle.rept_writing.specs.Bounded.{AreBounded, AreInBounds, IsBlockWidened, IsWidened, may_write}
use Rattle.rept_writing.proofs.Keeping.{set_elsewhere, set_there}

-- one row more
pub within_next : (list : List Writing) (wide : List ℕ) (start k : ℕ) (is : ℕ → Bool) (old new : StoreBounds) → ((a : ℕ) → hits_at list (get_or wide k 0) a ≡ is a) → IsWidened is old new → AreInBounds list wide (λ m. (start ≤ m) × (m < k)) old → AreInBounds list wide (λ m. (start ≤ m) × (m < k + 1)) new
within_next list wide start k is old new row widened before = record {
  within = λ m a place fits h. elim (cases_lt m k) [
    | inl less ↦ widened.kept a fits (before.within m a (place.0, less) fits h)
    | inr le ↦ let same : m ≡ k = omega (arith, le, place.1) in widened.more a fits (sym (row a) ∙ subst (λ (n : ℕ). hits_at list (get_or wide n 0) a ≡ true) same h)
  ];
}

-- a row of other addresses at an index that is kept for a row of many
pub bounded_replaced : (list : List Writing) (narrow : List Hit) (wide : List ℕ) (k p : ℕ) (w : Writing) (old new : List StoreBounds) → k < length list → (p < length wide) × (get_or wide p 0 ≡ k) → IsFiled list narrow wide → IsBlockWidened (call_hits w.access) (p / 32) old new → AreBounded list wide old → AreBounded (set list k w) wide new
bounded_replaced list narrow wide k p w old new lt (inside, is) filed wider before = λ m a here fits h. elim (cases_eq (get_or wide m 0) k) [
  | inl same ↦ subst (λ (n : ℕ). may_write new (n / 32) a ≡ true) (sym (once m here same)) (wider.more a fits (sym (ap (λ x. writing_hits x a) (set_there list k w lt)) ∙ subst (λ (n : ℕ). hits_at (set list k w) n a ≡ true) same h))
  | inr ne ↦ wider.kept (m / 32) a fits (before m a here fits (sym (ap (λ x. writing_hits x a) (set_elsewhere list k (get_or wide m 0) w ne)) ∙ h))
]
  where
    once : (m : ℕ) → m < length wide → get_or wide m 0 ≡ k → m ≡ p
    once m here same = elim (cases_lt m p) [
      | inl less ↦ absurd (omega (arith, filed.each_once m p less inside, same, is))
      | inr le ↦ elim (cases_lt p m) [
        | inl more ↦ absurd (omega (arith, filed.each_once p m more here, same, is))
        | inr ge ↦ omega (arith, le, ge)
      ]
    ]
