-- One thread in one slice: its moments are its points.
use Rattle.std.proofs.Common.{◌≡◌, ℕ, zero, suc, ◌<◌, ◌≤◌, Bool, false, List, [], ◌∷◌, length, Some, None, slice_get, unwrap_or, inl, inr, refl, sym, ap, ◌∙◌, subst, arith}
use Rattle.std.proofs.lemmas.Bool.{cases_order}
use Rattle.rept_steps.specs.declared.threads.ThreadRows.{ThreadRows}
use Rattle.rept_steps.specs.Course.{Course, Row, row_of, rows_of, no_thread, IsRow, IsAlone, IsSoundCourse}
use Rattle.rept_order.specs.Events.{Event, IsEvent, first_event, last_event, Precedes, PrecedesOrIs}
use Rattle.rept_order.specs.Events.IsBefore.{by_row}
use Rattle.rept_order.specs.Moments.{Moment, IsMoment, Earlier, Act, IsAct, WhollyAfter, Stretch, stretch, MayAct, may_by, stores, IsUntouchedStep, IsNext, ArePause, AreOne}
use Rattle.rept_order.specs.Moments.Moment.{before, after, at_end}
use Rattle.rept_order.specs.Moments.Act.{row, untraced}
use Rattle.rept_order.specs.Moments.ArePause.{between, last}
use Rattle.rept_order.specs.Times.{Sooner}
use Rattle.rept_order.specs.Times.IsOwnBefore.{rows, call}
use Rattle.rept_order.proofs.Sequence.{first_is_event, last_is_event, directly}
use Rattle.rept_order.proofs.Times.{precedes_sooner, alone_never, precedes_irreflexive}
use Rattle.rept_order.proofs.Between.{row_forward}

none_number : {a : ℕ} → None ≡ Some a → ⊥
none_number e = cc

moments_apart : {q r : Row} → before q ≡ after r → ⊥
moments_apart e = cc

end_apart : {q : Row} → after q ≡ at_end → ⊥
end_apart e = cc

same_before : {q r : Row} → before q ≡ before r → q ≡ r
same_before e = cc

same_after : {q r : Row} → after q ≡ after r → q ≡ r
same_after e = cc

module _ (C : Course) (sound : IsSoundCourse C) (alone : IsAlone C) where
  own_thread : (r : Row) → IsRow C r → r.thread ≡ 0
  own_thread r is = by_thread r.thread (subst (λ (ts : List ThreadRows). r.step < length (unwrap_or (slice_get ts r.thread) no_thread).steps) alone.only is)
    where
      by_thread : (t : ℕ) → r.step < length (unwrap_or (slice_get (alone.thread ∷ []) t) no_thread).steps → t ≡ 0
      by_thread zero k = refl
      by_thread (suc t) k = absurd (omega arith)

  one_thread : (q r : Row) → IsRow C q → IsRow C r → q.thread ≡ r.thread
  one_thread q r is its = own_thread q is ∙ sym (own_thread r its)

  named : (q r : Row) → IsRow C q → IsRow C r → q.step ≡ r.step → q ≡ r
  named q r is its same = ap (λ (t : ℕ). row_of t q.step) (one_thread q r is its) ∙ ap (λ (i : ℕ). row_of r.thread i) same

  no_untraced : IsAct C untraced → ⊥
  no_untraced is = none_number (sym alone.told ∙ is.1)

  precedes_rows : (e f : Event) → IsEvent C f → Precedes C e f → e.row.step ≤ f.row.step
  precedes_rows e f its way = by (precedes_sooner C sound e f way)
    where
      by : Sooner C e f → e.row.step ≤ f.row.step
      by (inl (same, rows less)) = omega arith
      by (inl (same, call own first second)) = let steps : e.row.step ≡ f.row.step = ap (λ (r : Row). r.step) own in omega arith
      by (inr ends) = absurd (alone_never C sound alone e f its ends)

  or_rows : (e f : Event) → IsEvent C f → PrecedesOrIs C e f → e.row.step ≤ f.row.step
  or_rows e f its (inl same) = let steps : e.row.step ≡ f.row.step = ap (λ (x : Event). x.row.step) same in omega arith
  or_rows e f its (inr way) = precedes_rows e f its way

  -- an earlier row is wholly before each moment of a later one
  earlier_first : (q r : Row) → IsRow C q → IsRow C r → q.step < r.step → Precedes C (last_event C q) (first_event C r)
  earlier_first q r is its less = directly C _ _ (record { first = last_is_event C q is; second = first_is_event C r its; why = by_row (one_thread q r is its) less })

  back_never : (r : Row) → IsRow C r → Precedes C (last_event C r) (first_event C r) → ⊥
  back_never r is way = precedes_irreflexive C sound (last_event C r) (Rattle.rept_order.proofs.Sequence.or_after C _ _ _ way (row_forward C r is))

  module _ (may : Row → ℕ → Bool) (a : ℕ) where
    pub quiet_alone : (r : Row) → IsRow C r → IsUntouchedStep C may (stretch (before r) (after r)) a → may r a ≡ false
    quiet_alone r is step = step.quiet.spared (row r) is (record {
      not_before = λ way. back_never r is way;
      not_after = λ way. back_never r is way;
      alone = λ q plain same. ap row (same_before (ap (λ (x : Stretch). x.from) same));
    })

    spared_row : (q r : Row) → IsRow C q → IsRow C r → may r a ≡ false → MayAct C (row q) (stretch (before r) (after r)) → may q a ≡ false
    spared_row q r is its out may_act =
        elim (cases_order q.step r.step) [
          | inl same ↦ subst (λ (x : Row). may x a ≡ false) (sym (named q r is its same)) out
          | inr (inl less) ↦ absurd (may_act.not_before (earlier_first q r is its less))
          | inr (inr more) ↦ absurd (may_act.not_after (earlier_first r q its is more))
        ]

    spared : (r : Row) → IsRow C r → may r a ≡ false → (act : Act) → IsAct C act → MayAct C act (stretch (before r) (after r)) → may_by may act a ≡ false
    spared r its out (row q) is may_act = spared_row q r is its out may_act
    spared r its out untraced is may_act = absurd (no_untraced is)

    pub alone_quiet : (r : Row) → IsRow C r → may r a ≡ false → IsUntouchedStep C may (stretch (before r) (after r)) a
    alone_quiet r is out = record {
      later = (row_forward C r is, moments_apart);
      quiet = record { in_order = row_forward C r is; spared = spared r is out };
    }

  may_act_pause : (q r : Row) (w : Moment) → IsRow C q → IsRow C r → (suc r.step ≤ q.step → WhollyAfter C (row q) w) → MayAct C (row q) (stretch (after r) w) → ⊥
  may_act_pause q r w is its past may_act =
      elim (cases_order q.step r.step) [
        | inl same ↦ may_act.not_before (inl (ap (λ (x : Row). last_event C x) (named q r is its same)))
        | inr (inl less) ↦ may_act.not_before (inr (directly C _ _ (record { first = last_is_event C q is; second = last_is_event C r its; why = by_row (one_thread q r is its) less })))
        | inr (inr more) ↦ may_act.not_after (past more)
      ]

  after_next : (t i : ℕ) (q : Row) → IsRow C q → suc i < length (rows_of C t) → suc i ≤ q.step → WhollyAfter C (row q) (before (row_of t (suc i)))
  after_next t i q is inside most =
      elim (cases_order q.step (suc i)) [
        | inl same ↦ inl (ap (λ (x : Row). first_event C x) (sym (named q (row_of t (suc i)) is inside same)))
        | inr (inl less) ↦ absurd (omega arith)
        | inr (inr more) ↦ inr (directly C _ _ (record { first = first_is_event C (row_of t (suc i)) inside; second = first_is_event C q is; why = by_row (one_thread (row_of t (suc i)) q inside is) more }))
      ]

  still_between : (t i : ℕ) → suc i < length (rows_of C t) → (act : Act) → IsAct C act → MayAct C act (stretch (after (row_of t i)) (before (row_of t (suc i)))) → may_by (λ r b. stores C r) act 0 ≡ false
  still_between t i inside (row q) is may_act = absurd (may_act_pause q (row_of t i) (before (row_of t (suc i))) is (omega arith) (after_next t i q is inside) may_act)
  still_between t i inside untraced is may_act = absurd (no_untraced is)

  still_last : (t i : ℕ) → suc i ≡ length (rows_of C t) → (act : Act) → IsAct C act → MayAct C act (stretch (after (row_of t i)) at_end) → may_by (λ r b. stores C r) act 0 ≡ false
  still_last t i inside (row q) is may_act = absurd (may_act_pause q (row_of t i) at_end is (omega arith) (λ most. let same : length (rows_of C q.thread) ≡ length (rows_of C t) = ap (λ (u : ℕ). length (rows_of C u)) (one_thread q (row_of t i) is (omega arith)) in absurd (omega arith)) may_act)
  still_last t i inside untraced is may_act = absurd (no_untraced is)

  pub pause_alone : (x : Stretch) → ArePause C x → AreOne C x
  pause_alone x (between t i inside is) = record { pause = between t i inside is; still = λ act its may_act. still_between t i inside act its (subst (λ (y : Stretch). MayAct C act y) is may_act) }
  pause_alone x (last t i inside is) = record { pause = last t i inside is; still = λ act its may_act. still_last t i inside act its (subst (λ (y : Stretch). MayAct C act y) is may_act) }

  none_between : (r : Row) (x : Moment) → IsRow C r → IsMoment C x → Earlier C (before r) x → Earlier C x (after r) → ⊥
  none_between r (before q) is its from to =
      let one = or_rows (first_event C r) (first_event C q) (first_is_event C q its) from.0 in
      let other = or_rows (first_event C q) (last_event C r) (last_is_event C r is) to.0 in
      from.1 (ap before (named r q is its (omega arith)))
  none_between r (after q) is its from to =
      let one = or_rows (first_event C r) (last_event C q) (last_is_event C q its) from.0 in
      let other = or_rows (last_event C q) (last_event C r) (last_is_event C r is) to.0 in
      to.1 (ap after (named q r its is (omega arith)))
  none_between r at_end is its from to = to.0

  pub next_alone : (r : Row) → IsRow C r → IsNext C (before r) (after r)
  next_alone r is = record { later = (row_forward C r is, moments_apart); none = λ x its from to. none_between r x is its from to }
