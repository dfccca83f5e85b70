-- Which of two moments of rows is earlier: of two threads by times, of one by the rows' numbers.
use Rattle.std.proofs.Common.{◌≡◌, ◌≢◌, ℕ, ◌<◌, ◌&&◌, nat_lt, Bool, true, false, Option, Some, None, inr, refl, sym, ap, arith}
use Rattle.std.proofs.lemmas.Bool.{ne_eqb, or_right}
use Rattle.rept_steps.specs.declared.slice.Slice.{Slice}
use Rattle.rept_steps.specs.Course.{Course, Row, IsRow, calls}
use Rattle.rept_order.specs.Events.{Event, event_slice, first_event, last_event}
use Rattle.rept_order.specs.Events.IsBefore.{by_row}
use Rattle.rept_order.specs.Moments.{Earlier}
use Rattle.rept_order.specs.Moments.Moment.{before, after}
use Rattle.rept_order.specs.Runs.{edge_part, beside_by}
use Rattle.rept_order.specs.Times.{begin_of, ends_by, own_before, sooner, same_part, same_row, not_later}
use Rattle.rept_order.proofs.Sequence.{first_is_event, last_is_event, directly}
use Rattle.rept_order.proofs.Between.{row_forward}
use Rattle.rept_moments.specs.Naming.Numbered.{row_on}
use Rattle.rept_moments.specs.declared.side.PointSide.{PointSide}
use Rattle.rept_moments.specs.Ordering.{moment_at_side, event_at}
use Rattle.rept_moments.specs.Writers.{end_of}

none_some : {A : Type 0} {x : A} → None ≡ Some x → ⊥
none_some e = cc

some_same : {A : Type 0} {x y : A} → Some x ≡ Some y → x ≡ y
some_same e = cc

-- the slice ends before the time
pub ends_some : (o : Option Slice) (e t : ℕ) → end_of o ≡ Some e → nat_lt e t ≡ ends_by o t
ends_some None e t k = absurd (none_some k)
ends_some (Some s) e t k = ap (λ (i : ℕ). nat_lt i t) (sym (some_same k))

pub ends_none : (o : Option Slice) (t : ℕ) → end_of o ≡ None → false ≡ ends_by o t
ends_none None t k = refl
ends_none (Some s) t k = absurd (none_some (sym k))

module _ (C : Course) where
  abbrev event_of : Row → Bool → Event
  event_of q x = record { row = q; part = edge_part x (calls C q) }

  apart_by : (q r : Row) (x y : Bool) → q.thread ≢ r.thread → not_later C (beside_by q x) (beside_by r y) ≡ ends_by (event_slice C (event_of q x)) (begin_of C (event_of r y))
  apart_by q r false false other = rw (ne_eqb q.thread r.thread other) refl
  apart_by q r false true other = rw (ne_eqb q.thread r.thread other) refl
  apart_by q r true false other = rw (ne_eqb q.thread r.thread other) refl
  apart_by q r true true other = rw (ne_eqb q.thread r.thread other) refl

  -- of two threads
  pub sides_apart : (a b : PointSide) → (row_on C a.point).thread ≢ (row_on C b.point).thread → not_later C (moment_at_side C a) (moment_at_side C b) ≡ ends_by (event_slice C (event_at C a)) (begin_of C (event_at C b))
  sides_apart a b other = apart_by (row_on C a.point) (row_on C b.point) a.is_after b.is_after other

  ends_by_times : (q r : Row) (x y : Bool) → ends_by (event_slice C (event_of q x)) (begin_of C (event_of r y)) ≡ true → not_later C (beside_by q x) (beside_by r y) ≡ true
  ends_by_times q r false false e = or_right (same_row q r && same_part (edge_part false (calls C q)) (edge_part false (calls C r))) (sooner C (event_of q false) (event_of r false)) (or_right (own_before (event_of q false) (event_of r false)) (ends_by (event_slice C (event_of q false)) (begin_of C (event_of r false))) e)
  ends_by_times q r false true e = or_right (same_row q r && same_part (edge_part false (calls C q)) (edge_part true (calls C r))) (sooner C (event_of q false) (event_of r true)) (or_right (own_before (event_of q false) (event_of r true)) (ends_by (event_slice C (event_of q false)) (begin_of C (event_of r true))) e)
  ends_by_times q r true false e = or_right (own_before (event_of q true) (event_of r false)) (ends_by (event_slice C (event_of q true)) (begin_of C (event_of r false))) e
  ends_by_times q r true true e = or_right (same_row q r && same_part (edge_part true (calls C q)) (edge_part true (calls C r))) (sooner C (event_of q true) (event_of r true)) (or_right (own_before (event_of q true) (event_of r true)) (ends_by (event_slice C (event_of q true)) (begin_of C (event_of r true))) e)

  -- of one thread or two
  pub sides_ended : (a b : PointSide) → ends_by (event_slice C (event_at C a)) (begin_of C (event_at C b)) ≡ true → not_later C (moment_at_side C a) (moment_at_side C b) ≡ true
  sides_ended a b e = ends_by_times (row_on C a.point) (row_on C b.point) a.is_after b.is_after e

  before_row : {q r : Row} → before q ≡ before r → q ≡ r
  before_row e = cc

  after_row : {q r : Row} → after q ≡ after r → q ≡ r
  after_row e = cc

  before_after : {q r : Row} → before q ≡ after r → ⊥
  before_after e = cc

  after_before : {q r : Row} → after q ≡ before r → ⊥
  after_before e = cc

  low_row : (q r : Row) → q.step < r.step → q ≡ r → ⊥
  low_row q r less e = let same : q.step ≡ r.step = ap (λ (x : Row). x.step) e in absurd (omega arith)

  -- of one thread
  pub rows_apart : (q r : Row) (x y : Bool) → IsRow C q → IsRow C r → q.thread ≡ r.thread → q.step < r.step → Earlier C (beside_by q x) (beside_by r y)
  rows_apart q r false false is its own less = (inr (directly C (first_event C q) (first_event C r) (record { first = first_is_event C q is; second = first_is_event C r its; why = by_row own less })), λ e. low_row q r less (before_row e))
  rows_apart q r false true is its own less = (inr (directly C (first_event C q) (last_event C r) (record { first = first_is_event C q is; second = last_is_event C r its; why = by_row own less })), λ e. before_after e)
  rows_apart q r true false is its own less = (directly C (last_event C q) (first_event C r) (record { first = last_is_event C q is; second = first_is_event C r its; why = by_row own less }), λ e. after_before e)
  rows_apart q r true true is its own less = (inr (directly C (last_event C q) (last_event C r) (record { first = last_is_event C q is; second = last_is_event C r its; why = by_row own less })), λ e. low_row q r less (after_row e))

  pub row_apart : (r : Row) → IsRow C r → Earlier C (before r) (after r)
  row_apart r is = (row_forward C r is, λ e. before_after e)
