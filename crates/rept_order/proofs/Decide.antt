-- The order is decided by times.
use Rattle.std.proofs.Common.{◌≡◌, ℕ, ◌⊎◌, ◌&&◌, ◌||◌, not, eqb, nat_lt, Bool, true, false, Option, Some, None, inl, inr, refl, sym, ap, ◌∙◌, subst}
use Rattle.std.proofs.lemmas.Bool.{false≢true, cases_Bool, or_cases, or_left, or_right, and_parts, and_from, eqb-true, eq-eqb, ltb-true, lt-ltb}
use Rattle.rept_steps.specs.declared.slice.Slice.{Slice}
use Rattle.rept_steps.specs.Course.{Course, Row, row_of, IsSoundCourse}
use Rattle.rept_order.specs.Events.{Event, IsEvent, Part, Precedes, PrecedesOrIs, event_slice}
use Rattle.rept_order.specs.Events.Part.{whole, entry, return}
use Rattle.rept_order.specs.Moments.{Moment, IsMoment, NotLater, Earlier}
use Rattle.rept_order.specs.Moments.Moment.{before, after, at_end}
use Rattle.rept_order.specs.Times.{IsOwnBefore, begin_of, EndsBefore, Sooner, is_entry, is_return, own_before, ends_by, sooner, same_part, same_row, sooner_or_same, not_later, same_moment, is_earlier}
use Rattle.rept_order.specs.Times.IsOwnBefore.{rows, call}
use Rattle.rept_order.proofs.Sequence.{first_is_event, last_is_event}
use Rattle.rept_order.proofs.Times.{precedes_sooner, sooner_precedes}

entry_true : (p : Part) → is_entry p ≡ true → p ≡ entry
entry_true whole e = absurd (false≢true e)
entry_true entry e = refl
entry_true return e = absurd (false≢true e)

return_true : (p : Part) → is_return p ≡ true → p ≡ return
return_true whole e = absurd (false≢true e)
return_true entry e = absurd (false≢true e)
return_true return e = refl

part_true : (p q : Part) → same_part p q ≡ true → p ≡ q
part_true whole whole e = refl
part_true entry entry e = refl
part_true return return e = refl
part_true whole entry e = absurd (false≢true e)
part_true whole return e = absurd (false≢true e)
part_true entry whole e = absurd (false≢true e)
part_true entry return e = absurd (false≢true e)
part_true return whole e = absurd (false≢true e)
part_true return entry e = absurd (false≢true e)

part_self : (p : Part) → same_part p p ≡ true
part_self whole = refl
part_self entry = refl
part_self return = refl

pub row_true : (q r : Row) → same_row q r ≡ true → q ≡ r
row_true q r e =
    let parts = and_parts (eqb q.thread r.thread) (eqb q.step r.step) e in
    let threads = eqb-true q.thread r.thread parts.0 in
    let steps = eqb-true q.step r.step parts.1 in
    ap (λ (t : ℕ). row_of t q.step) threads ∙ ap (λ (i : ℕ). row_of r.thread i) steps

pub row_self : (q r : Row) → q ≡ r → same_row q r ≡ true
row_self q r same = and_from (eqb q.thread r.thread) (eqb q.step r.step) (eq-eqb q.thread r.thread (ap (λ (x : Row). x.thread) same)) (eq-eqb q.step r.step (ap (λ (x : Row). x.step) same))

event_true : (e f : Event) → (same_row e.row f.row && same_part e.part f.part) ≡ true → e ≡ f
event_true e f k =
    let parts = and_parts (same_row e.row f.row) (same_part e.part f.part) k in
    ap (λ (r : Row). Rattle.rept_order.proofs.Sequence.part_of r e.part) (row_true e.row f.row parts.0) ∙ ap (λ (p : Part). Rattle.rept_order.proofs.Sequence.part_of f.row p) (part_true e.part f.part parts.1)

event_self : (e f : Event) → e ≡ f → (same_row e.row f.row && same_part e.part f.part) ≡ true
event_self e f same = and_from (same_row e.row f.row) (same_part e.part f.part) (row_self e.row f.row (ap (λ (x : Event). x.row) same)) (subst (λ (x : Event). same_part e.part x.part ≡ true) same (part_self e.part))

own_true : (e f : Event) → own_before e f ≡ true → (e.row.thread ≡ f.row.thread) × IsOwnBefore e f
own_true e f k =
    let parts = and_parts (eqb e.row.thread f.row.thread) (nat_lt e.row.step f.row.step || (eqb e.row.step f.row.step && (is_entry e.part && is_return f.part))) k in
    let threads = eqb-true e.row.thread f.row.thread parts.0 in
    elim (or_cases (nat_lt e.row.step f.row.step) (eqb e.row.step f.row.step && (is_entry e.part && is_return f.part)) parts.1) [
      | inl less ↦ (threads, rows (ltb-true e.row.step f.row.step less))
      | inr its ↦
          let both = and_parts (eqb e.row.step f.row.step) (is_entry e.part && is_return f.part) its in
          let ends = and_parts (is_entry e.part) (is_return f.part) both.1 in
          (threads, call (row_true e.row f.row (and_from (eqb e.row.thread f.row.thread) (eqb e.row.step f.row.step) parts.0 both.0)) (entry_true e.part ends.0) (return_true f.part ends.1))
    ]

own_from : (e f : Event) → e.row.thread ≡ f.row.thread → IsOwnBefore e f → own_before e f ≡ true
own_from e f threads (rows less) = and_from (eqb e.row.thread f.row.thread) (nat_lt e.row.step f.row.step || (eqb e.row.step f.row.step && (is_entry e.part && is_return f.part))) (eq-eqb e.row.thread f.row.thread threads) (or_left (nat_lt e.row.step f.row.step) (eqb e.row.step f.row.step && (is_entry e.part && is_return f.part)) (lt-ltb e.row.step f.row.step less))
own_from e f threads (call row first second) =
    let steps = eq-eqb e.row.step f.row.step (ap (λ (r : Row). r.step) row) in
    let one : is_entry e.part ≡ true = ap is_entry first in
    let other : is_return f.part ≡ true = ap is_return second in
    let parts = and_from (eqb e.row.step f.row.step) (is_entry e.part && is_return f.part) steps (and_from (is_entry e.part) (is_return f.part) one other) in
    and_from (eqb e.row.thread f.row.thread) (nat_lt e.row.step f.row.step || (eqb e.row.step f.row.step && (is_entry e.part && is_return f.part))) (eq-eqb e.row.thread f.row.thread threads) (or_right (nat_lt e.row.step f.row.step) (eqb e.row.step f.row.step && (is_entry e.part && is_return f.part)) parts)

module _ (C : Course) where
  ends_true : (e f : Event) (o : Option Slice) → event_slice C e ≡ o → ends_by o (begin_of C f) ≡ true → EndsBefore C e f
  ends_true e f None is k = absurd (false≢true k)
  ends_true e f (Some s) is k = record { slice = s; in_slice = is; less = ltb-true s.end (begin_of C f) k }

  sooner_true : (e f : Event) → sooner C e f ≡ true → Sooner C e f
  sooner_true e f k =
      elim (or_cases (own_before e f) (ends_by (event_slice C e) (begin_of C f)) k) [
        | inl own ↦ inl (own_true e f own)
        | inr ends ↦ inr (ends_true e f (event_slice C e) refl ends)
      ]

  sooner_from : (e f : Event) → Sooner C e f → sooner C e f ≡ true
  sooner_from e f (inl own) = or_left (own_before e f) (ends_by (event_slice C e) (begin_of C f)) (own_from e f own.0 own.1)
  sooner_from e f (inr ends) =
      let test : ends_by (event_slice C e) (begin_of C f) ≡ true = ap (λ (o : Option Slice). ends_by o (begin_of C f)) ends.in_slice ∙ lt-ltb ends.slice.end (begin_of C f) ends.less in
      or_right (own_before e f) (ends_by (event_slice C e) (begin_of C f)) test

module _ (C : Course) (sound : IsSoundCourse C) where
  pub precedes_true : (e f : Event) → IsEvent C e → IsEvent C f → sooner C e f ≡ true → Precedes C e f
  precedes_true e f ie jf k = sooner_precedes C sound e f ie jf (sooner_true C e f k)

  pub precedes_from : (e f : Event) → Precedes C e f → sooner C e f ≡ true
  precedes_from e f k = sooner_from C e f (precedes_sooner C sound e f k)

  pub or_true : (e f : Event) → IsEvent C e → IsEvent C f → sooner_or_same C e f ≡ true → PrecedesOrIs C e f
  or_true e f ie jf k =
      elim (or_cases (same_row e.row f.row && same_part e.part f.part) (sooner C e f) k) [
        | inl same ↦ inl (event_true e f same)
        | inr less ↦ inr (precedes_true e f ie jf less)
      ]

  pub or_from_it : (e f : Event) → PrecedesOrIs C e f → sooner_or_same C e f ≡ true
  or_from_it e f (inl same) = or_left (same_row e.row f.row && same_part e.part f.part) (sooner C e f) (event_self e f same)
  or_from_it e f (inr less) = or_right (same_row e.row f.row && same_part e.part f.part) (sooner C e f) (precedes_from e f less)

  pub not_later_true : (m w : Moment) → IsMoment C m → IsMoment C w → not_later C m w ≡ true → NotLater C m w
  not_later_true (before q) (before r) is its k = or_true _ _ (first_is_event C q is) (first_is_event C r its) k
  not_later_true (before q) (after r) is its k = or_true _ _ (first_is_event C q is) (last_is_event C r its) k
  not_later_true (after q) (before r) is its k = precedes_true _ _ (last_is_event C q is) (first_is_event C r its) k
  not_later_true (after q) (after r) is its k = or_true _ _ (last_is_event C q is) (last_is_event C r its) k
  not_later_true at_end (before r) is its k = absurd (false≢true k)
  not_later_true at_end (after r) is its k = absurd (false≢true k)
  not_later_true (before q) at_end is its k = tt
  not_later_true (after q) at_end is its k = tt
  not_later_true at_end at_end is its k = tt

  pub not_later_from : (m w : Moment) → NotLater C m w → not_later C m w ≡ true
  not_later_from (before q) (before r) k = or_from_it _ _ k
  not_later_from (before q) (after r) k = or_from_it _ _ k
  not_later_from (after q) (before r) k = precedes_from _ _ k
  not_later_from (after q) (after r) k = or_from_it _ _ k
  not_later_from at_end (before r) k = absurd k
  not_later_from at_end (after r) k = absurd k
  not_later_from (before q) at_end k = refl
  not_later_from (after q) at_end k = refl
  not_later_from at_end at_end k = refl

  moment_true : (m w : Moment) → same_moment m w ≡ true → m ≡ w
  moment_true (before q) (before r) k = ap before (row_true q r k)
  moment_true (before q) (after r) k = absurd (false≢true k)
  moment_true (before q) at_end k = absurd (false≢true k)
  moment_true (after q) (before r) k = absurd (false≢true k)
  moment_true (after q) (after r) k = ap after (row_true q r k)
  moment_true (after q) at_end k = absurd (false≢true k)
  moment_true at_end (before r) k = absurd (false≢true k)
  moment_true at_end (after r) k = absurd (false≢true k)
  moment_true at_end at_end k = refl

  moment_self : (m : Moment) → same_moment m m ≡ true
  moment_self (before q) = row_self q q refl
  moment_self (after q) = row_self q q refl
  moment_self at_end = refl

  not_same : (b : Bool) → not b ≡ true → b ≡ true → ⊥
  not_same true e k = false≢true e
  not_same false e k = false≢true k

  not_from : (b : Bool) → (b ≡ true → ⊥) → not b ≡ true
  not_from true k = absurd (k refl)
  not_from false k = refl

  pub earlier_true : (m w : Moment) → IsMoment C m → IsMoment C w → is_earlier C m w ≡ true → Earlier C m w
  earlier_true m w is its k =
      let parts = and_parts (not_later C m w) (not (same_moment m w)) k in
      (not_later_true m w is its parts.0, λ same. not_same (same_moment m w) parts.1 (subst (λ (y : Moment). same_moment m y ≡ true) same (moment_self m)))

  pub earlier_from : (m w : Moment) → Earlier C m w → is_earlier C m w ≡ true
  earlier_from m w k = and_from (not_later C m w) (not (same_moment m w)) (not_later_from m w k.0) (not_from (same_moment m w) (λ e. k.1 (moment_true m w e)))

  -- of two moments it is decided whether the one is earlier
  pub cases_earlier : (m w : Moment) → IsMoment C m → IsMoment C w → Earlier C m w ⊎ (Earlier C m w → ⊥)
  cases_earlier m w is its =
      elim (cases_Bool (is_earlier C m w)) [
        | inl holds ↦ inl (earlier_true m w is its holds)
        | inr fails ↦ inr (λ k. false≢true (sym fails ∙ earlier_from m w k))
      ]
