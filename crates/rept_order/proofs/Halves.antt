-- The slice of a row by halves.
use Rattle.std.proofs.Common.{◌≡◌, ℕ, zero, suc, ◌+◌, ◌<◌, ◌≤◌, nat_lt, cond, Bool, true, false, List, [], ◌∷◌, slice_get, inl, inr, refl, ap, arith}
use Rattle.std.proofs.lemmas.Bool.{cases_lt, lt-ltb, le-ltb}
use Rattle.rept_steps.specs.declared.slice.Slice.{Slice}
use Rattle.rept_steps.specs.Course.{slice_of, slice_after, TakeRows}
use Rattle.rept_order.specs.Reaching.{reaches_at}
use Rattle.rept_order.proofs.Slots.{slot, by_slot, by_slot_after}

-- a test that is true
lt_of : (i n : ℕ) → nat_lt i n ≡ true → i < n
lt_of i n h = elim (cases_lt i n) [
  | inl less ↦ less
  | inr more ↦ absurd (let f = le-ltb i n more in cc)
]

-- whoever takes rows from a number on reaches no less
reach_from : (slices : List Slice) (from to step k : ℕ) → TakeRows from slices to → step < from → reaches_at slices k step ≡ true
reach_from [] from to step k taken less = refl
reach_from (s ∷ slices) from to step zero taken less = let first = taken.0 in lt-ltb step (s.first + s.count) (omega arith)
reach_from (s ∷ slices) from to step (suc k) taken less = reach_from slices (from + s.count) to step k taken.1 (omega arith)

-- the slices after one that reaches past the row do too
pub reach_on : (slices : List Slice) (from to step i j : ℕ) → TakeRows from slices to → i ≤ j → reaches_at slices i step ≡ true → reaches_at slices j step ≡ true
reach_on [] from to step i j taken least here = refl
reach_on (s ∷ slices) from to step zero zero taken least here = here
reach_on (s ∷ slices) from to step zero (suc j) taken least here =
    let first = taken.0 in
    let less = lt_of step (s.first + s.count) here in
    reach_from slices (from + s.count) to step j taken.1 (omega arith)
reach_on (s ∷ slices) from to step (suc i) zero taken least here = absurd (omega arith)
reach_on (s ∷ slices) from to step (suc i) (suc j) taken least here = reach_on slices (from + s.count) to step i j taken.1 (omega arith) here

either : (b : Bool) → (b ≡ true → ⊥) → b ≡ false
either true h = absurd (h refl)
either false h = refl

-- and those before one that doesn't don't
pub reach_back : (slices : List Slice) (from to step i j : ℕ) → TakeRows from slices to → i ≤ j → reaches_at slices j step ≡ false → reaches_at slices i step ≡ false
reach_back slices from to step i j taken least not_there = either (reaches_at slices i step) (λ here. let there = reach_on slices from to step i j taken least here in cc)

-- all before a number don't reach past the row, and all from it on do: it is that of the row's
-- slice
slot_is : (slices : List Slice) (step p : ℕ) → ((k : ℕ) → k < p → reaches_at slices k step ≡ false) → reaches_at slices p step ≡ true → slot slices step ≡ p
slot_is [] step zero before at = refl
slot_is [] step (suc p) before at = let none : true ≡ false = before 0 (omega arith) in absurd (cc)
slot_is (s ∷ slices) step zero before at = rw at refl
slot_is (s ∷ slices) step (suc p) before at =
    let first : nat_lt step (s.first + s.count) ≡ false = before 0 (omega arith) in
    rw first (ap suc (slot_is slices step p (λ k less. before (suc k) (omega arith)) at))

pub holding_is : (slices : List Slice) (step p : ℕ) → ((k : ℕ) → k < p → reaches_at slices k step ≡ false) → reaches_at slices p step ≡ true → slice_of slices step ≡ slice_get slices p
holding_is slices step p before at = let e = slot_is slices step p before at in rw (by_slot slices step, e) refl

pub following_is : (slices : List Slice) (step p : ℕ) → ((k : ℕ) → k < p → reaches_at slices k step ≡ false) → reaches_at slices p step ≡ true → slice_after slices step ≡ slice_get slices (p + 1)
following_is slices step p before at = let e = slot_is slices step p before at in let next : p + 1 ≡ suc p = omega arith in rw (by_slot_after slices step, e, next) refl

-- no slice is past the last one
pub reach_past : (slices : List Slice) (n step k : ℕ) → Rattle.std.proofs.Common.length slices ≤ k → reaches_at slices k step ≡ true
reach_past [] n step k past = refl
reach_past (s ∷ slices) n step zero past = absurd (omega arith)
reach_past (s ∷ slices) n step (suc k) past = reach_past slices n step k (omega arith)
