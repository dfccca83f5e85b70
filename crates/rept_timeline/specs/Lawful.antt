-- The laws of rows and moments can be had from the mere fact that they hold: whether there is a
-- next moment on the way to the end is found by trying all numbers.
use mathlib.Core.Logic.{∥∥₁_elim, ∥∥₁_prop}
use Rattle.std.proofs.Props.{props}
use Rattle.std.proofs.Common.{◌≡◌, ℕ, zero, suc, ◌<◌, ◌≤◌, ◌⊎◌, Bool, true, false, inl, inr, refl, sym, ap, ◌∙◌, subst, arith}
use Rattle.std.proofs.lemmas.Bool.{false≢true, cases_lt}
use Rattle.rept_span.specs.Ranges.{Legs}
use Rattle.rept_report.specs.Moments.{Moments, HasNext, AreMoments}
use Rattle.rept_report.specs.Timeline.{Timeline, IsTimeline}

module _ (M : Moments) (m : ℕ) where
  abbrev IsNoneBelow : ℕ → Type 0
  IsNoneBelow n = (w : ℕ) → w < n → M.next m w ≡ true → M.left w < M.left m → ⊥

  try : (n : ℕ) → IsNoneBelow n → (b : Bool) → M.next m n ≡ b → HasNext M m ⊎ IsNoneBelow (suc n)
  try n none false e = inr (λ w less next nearer.
      elim (cases_lt w n) [
        | inl low ↦ none w low next nearer
        | inr past ↦ let same : n ≡ w = omega arith in false≢true (sym e ∙ ap (λ (k : ℕ). M.next m k) same ∙ next)
      ])
  try n none true e =
      elim (cases_lt (M.left n) (M.left m)) [
        | inl less ↦ inl (record { to = n; next = e; nearer = less })
        | inr far ↦ inr (λ w less next nearer.
            elim (cases_lt w n) [
              | inl low ↦ none w low next nearer
              | inr past ↦
                  let same : w ≡ n = omega arith in
                  let closer : M.left n < M.left m = subst (λ (k : ℕ). M.left k < M.left m) same nearer in
                  absurd (omega arith)
            ])
      ]

  try_all : (n : ℕ) → HasNext M m ⊎ IsNoneBelow n
  try_all zero = inr (λ w less next nearer. absurd (omega arith))
  try_all (suc n) =
      elim (try_all n) [
        | inl found ↦ inl found
        | inr none ↦ try n none (M.next m n) refl
      ]

  has_next : ∥ HasNext M m ∥₁ → ((w : ℕ) → M.next m w ≡ true → w ≤ M.end) → HasNext M m
  has_next t most =
      elim (try_all (suc M.end)) [
        | inl found ↦ found
        | inr none ↦ absurd (∥∥₁_elim t (λ x y. absurd x) (λ h. none h.to (let top = most h.to h.next in omega arith) h.next h.nearer))
      ]

are_moments : (legs : Legs) (M : Moments) → ∥ AreMoments legs M ∥₁ → AreMoments legs M
are_moments legs M t = record {
  rows_before = λ i row e. ∥∥₁_elim t (hlevel props) (λ a. a.rows_before i row e);
  rows_after = λ i row e. ∥∥₁_elim t (hlevel props) (λ a. a.rows_after i row e);
  inside = λ m w e. (∥∥₁_elim t (hlevel props) (λ a. (a.inside m w e).0), ∥∥₁_elim t (hlevel props) (λ a. (a.inside m w e).1));
  rows_past = λ i row e. ∥∥₁_elim t (hlevel props) (λ a. a.rows_past i row e);
  untraced_past = ∥∥₁_elim t (hlevel props) (λ a. a.untraced_past);
  later_apart = λ i j is its later. ∥∥₁_elim t (hlevel props) (λ a. a.later_apart i j is its later);
  past_onward = λ i m w e past. (∥∥₁_elim t (hlevel props) (λ a. (a.past_onward i m w e past).0), ∥∥₁_elim t (hlevel props) (λ a. (a.past_onward i m w e past).1));
  untraced_onward = λ m w e past. (∥∥₁_elim t (hlevel props) (λ a. (a.untraced_onward m w e past).0), ∥∥₁_elim t (hlevel props) (λ a. (a.untraced_onward m w e past).1));
  past_back = λ i m w e past may_act. ∥∥₁_elim t (hlevel props) (λ a. a.past_back i m w e past may_act);
  untraced_back = λ m w e past untraced. ∥∥₁_elim t (hlevel props) (λ a. a.untraced_back m w e past untraced);
  reaches = λ m few other. has_next M m (∥∥₁_elim t ∥∥₁_prop (λ a. ∣ a.reaches m few other ∣₁)) (λ w e. ∥∥₁_elim t (hlevel props) (λ a. (a.inside m w e).1));
}

pub is_timeline : (t : Timeline) → ∥ IsTimeline t ∥₁ → IsTimeline t
is_timeline t h = record {
  legs = record { inside = λ i row e. ∥∥₁_elim h (hlevel props) (λ a. a.legs.inside i row e) };
  moments = are_moments t.legs t.moments (∥∥₁_elim h ∥∥₁_prop (λ a. ∣ a.moments ∣₁));
  points = ∥∥₁_elim h (hlevel props) (λ a. a.points);
  numbers = ∥∥₁_elim h (hlevel props) (λ a. a.numbers);
}
