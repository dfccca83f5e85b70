-- In a thread the rows that lie wholly before a moment come first, and those wholly after it last.
use Rattle.std.proofs.Common.{◌≡◌, ℕ, zero, suc, ◌+◌, ◌-◌, ◌<◌, ◌≤◌, ◌||◌, not, Bool, true, false, Option, Some, None, inl, inr, refl, sym, ap, ◌∙◌, subst, arith}
use Rattle.std.specs.Option.{IsSome}
use Rattle.std.proofs.lemmas.Bool.{false≢true, cases_lt, or_right}
use Rattle.rept_isa.specs.declared.row.StepRow.{StepRow}
use Rattle.rept_steps.specs.Course.{Course, Row, row_of, IsSoundCourse}
use Rattle.rept_order.specs.Moments.{Moment, IsMoment, stores, is_writing}
use Rattle.rept_order.specs.Moments.Moment.{before, after}
use Rattle.rept_order.specs.Moments.Act.{row}
use Rattle.rept_order.specs.Times.{not_later, wholly_before}
use Rattle.rept_order.specs.Legs.{leg_row}
use Rattle.rept_order.proofs.Decide.{not_later_true, not_later_from}
use Rattle.rept_order.proofs.Sequence.{not_later_trans}
use Rattle.rept_moments.specs.Naming.Numbered.{row_on}
use Rattle.rept_moments.specs.Numbers.{numbers_of, numbered}
use Rattle.rept_moments.proofs.Apart.{are_numbers}
use Rattle.rept_moments.proofs.Places.{there_row, next_row}
use Rattle.rept_moments.proofs.Sooner.{rows_apart}

not_so : (b : Bool) → (b ≡ true → ⊥) → b ≡ false
not_so true k = absurd (k refl)
not_so false k = refl

some_none : {x : StepRow} → Some x ≡ None → ⊥
some_none e = cc

module _ (C : Course) where
  -- a row that can't write lies before each moment
  pub rests_past : (i m : ℕ) → stores C (row_on C i) ≡ false → (numbered C).past i m ≡ true
  rests_past i m e = ap (λ (b : Bool). not b || wholly_before C (row (row_on C i)) ((numbers_of C).last m)) e

  pub open_stores : (i m : ℕ) → (numbered C).past i m ≡ false → stores C (row_on C i) ≡ true
  open_stores i m e = go (stores C (row_on C i)) refl
    where
      go : (b : Bool) → stores C (row_on C i) ≡ b → stores C (row_on C i) ≡ true
      go true is = is
      go false is = absurd (false≢true (sym e ∙ rests_past i m is))

  writing_some : (o : Option StepRow) → is_writing o ≡ true → IsSome o
  writing_some None e = absurd (false≢true e)
  writing_some (Some x) e = refl

  -- what writes is a row
  pub stores_row : (i : ℕ) → stores C (row_on C i) ≡ true → IsSome (leg_row C i)
  stores_row i e = writing_some (leg_row C i) e

  -- rows one after the other are of one thread
  pub in_thread : (i d : ℕ) → ((q : ℕ) → i ≤ q → q < i + d → IsSome (leg_row C q)) → row_on C (i + d) ≡ row_of (row_on C i).thread ((row_on C i).step + d)
  in_thread i zero leads =
      let here : i + 0 ≡ i = omega arith in
      let none : (row_on C i).step ≡ (row_on C i).step + 0 = omega arith in
      ap (row_on C) here ∙ ap (row_of (row_on C i).thread) none
  in_thread i (suc d) leads =
      let rest = in_thread i d (λ q low less. leads q low (omega arith)) in
      let up : i + suc d ≡ suc (i + d) = omega arith in
      let step : suc ((row_on C i).step + d) ≡ (row_on C i).step + suc d = omega arith in
      ap (row_on C) up ∙ next_row C (i + d) (there_row C (row_on C (i + d)) (leads (i + d) (omega arith) (omega arith))) ∙ ap (λ (r : Row). row_of r.thread (suc r.step)) rest ∙ ap (row_of (row_on C i).thread) step

  pub record AreApart (i j : ℕ) : Type 0 where
    pub thread : (row_on C i).thread ≡ (row_on C j).thread
    pub order : (row_on C i).step < (row_on C j).step

  pub apart : (i j : ℕ) → i < j → ((q : ℕ) → i ≤ q → q < j → IsSome (leg_row C q)) → AreApart i j
  apart i j less leads =
      let whole : i + (j - i) ≡ j = omega arith in
      let there : row_on C j ≡ row_of (row_on C i).thread ((row_on C i).step + (j - i)) = sym (ap (row_on C) whole) ∙ in_thread i (j - i) (λ q low below. leads q low (omega arith)) in
      let step : (row_on C j).step ≡ (row_on C i).step + (j - i) = ap (λ (r : Row). r.step) there in
      record { thread = sym (ap (λ (r : Row). r.thread) there); order = omega arith }

  module _ (sound : IsSoundCourse C) where
    last_moment : (m : ℕ) → m ≤ (numbers_of C).end → IsMoment C ((numbers_of C).last m)
    last_moment m few = ((are_numbers C sound).named m few).0

    after_onward : (i j : ℕ) (x : Moment) → i < j → ((q : ℕ) → i ≤ q → q ≤ j → IsSome (leg_row C q)) → IsMoment C x → not_later C (after (row_on C j)) x ≡ true → not_later C (after (row_on C i)) x ≡ true
    after_onward i j x less leads is e =
        let first = there_row C (row_on C i) (leads i (omega arith) (omega arith)) in
        let second = there_row C (row_on C j) (leads j (omega arith) (omega arith)) in
        let its = apart i j less (λ q low below. leads q low (omega arith)) in
        not_later_from C sound (after (row_on C i)) x
        (not_later_trans C (after (row_on C i)) (after (row_on C j)) x (rows_apart C (row_on C i) (row_on C j) true true first second its.thread its.order).0 (not_later_true C sound (after (row_on C j)) x second is e))

    pub past_front : (i j m : ℕ) → i ≤ j → ((q : ℕ) → i ≤ q → q ≤ j → IsSome (leg_row C q)) → m ≤ (numbers_of C).end → stores C (row_on C j) ≡ true → (numbered C).past j m ≡ true → (numbered C).past i m ≡ true
    past_front i j m order leads few writes past =
        elim (cases_lt i j) [
          | inl less ↦
              or_right (not (stores C (row_on C i))) (wholly_before C (row (row_on C i)) ((numbers_of C).last m))
              (after_onward i j ((numbers_of C).last m) less leads (last_moment m few) (sym (ap (λ (b : Bool). not b || wholly_before C (row (row_on C j)) ((numbers_of C).last m)) writes) ∙ past))
          | inr over ↦ let same : j ≡ i = omega arith in subst (λ (k : ℕ). (numbered C).past k m ≡ true) same past
        ]

    pub ahead_tail : (i j w : ℕ) → i ≤ j → ((q : ℕ) → i ≤ q → q ≤ j → IsSome (leg_row C q)) → w ≤ (numbers_of C).end → (numbered C).ahead i w ≡ true → (numbered C).ahead j w ≡ true
    ahead_tail i j w order leads few ahead =
        elim (cases_lt i j) [
          | inl less ↦
              let first = there_row C (row_on C i) (leads i (omega arith) (omega arith)) in
              let second = there_row C (row_on C j) (leads j (omega arith) (omega arith)) in
              let its = apart i j less (λ q low below. leads q low (omega arith)) in
              not_later_from C sound ((numbers_of C).last w) (before (row_on C j))
              (not_later_trans C ((numbers_of C).last w) (before (row_on C i)) (before (row_on C j)) (not_later_true C sound ((numbers_of C).last w) (before (row_on C i)) (last_moment w few) first ahead) (rows_apart C (row_on C i) (row_on C j) false false first second its.thread its.order).0)
          | inr over ↦ let same : i ≡ j = omega arith in subst (λ (k : ℕ). (numbered C).ahead k w ≡ true) same ahead
        ]

    pub later_front : (r i j : ℕ) → IsSome (leg_row C r) → i ≤ j → ((q : ℕ) → i ≤ q → q ≤ j → IsSome (leg_row C q)) → (numbered C).later r j ≡ true → (numbered C).later r i ≡ true
    later_front r i j there order leads later =
        elim (cases_lt i j) [
          | inl less ↦ after_onward i j (before (row_on C r)) less leads (there_row C (row_on C r) there) later
          | inr over ↦ let same : j ≡ i = omega arith in subst (λ (k : ℕ). (numbered C).later r k ≡ true) same later
        ]

    -- as it isn't
    pub later_tail : (r i j : ℕ) → IsSome (leg_row C r) → i ≤ j → ((q : ℕ) → i ≤ q → q ≤ j → IsSome (leg_row C q)) → (numbered C).later r i ≡ false → (numbered C).later r j ≡ false
    later_tail r i j there order leads none = not_so ((numbered C).later r j) (λ e. false≢true (sym none ∙ later_front r i j there order leads e))
