-- The order by times alone: within a thread by the rows' numbers, and between threads by where
-- slices end and begin. This project's own.
use Rattle.std.specs.Prelude.{◌≡◌, ℕ, ◌<◌, ◌⊎◌, nat_lt, ◌==◌, ◌&&◌, ◌||◌, not, Bool, true, false, Option, Some, None}
use Rattle.rept_steps.specs.declared.slice.Slice.{Slice}
use Rattle.rept_steps.specs.Course.{Course, Row, calls, slices_of, slice_of}
use Rattle.rept_order.specs.Events.{Event, Part, event_slice, first_event, last_event}
use Rattle.rept_order.specs.Events.Part.{whole, entry, return}
use Rattle.rept_order.specs.Moments.{Moment, Act}
use Rattle.rept_order.specs.Moments.Act.{row, untraced}
use Rattle.rept_order.specs.Moments.Moment.{before, after, at_end}

-- within a thread
pub data IsOwnBefore (e f : Event) : Type 0 where
  rows : e.row.step < f.row.step → IsOwnBefore e f
  call : e.row ≡ f.row → e.part ≡ entry → f.part ≡ return → IsOwnBefore e f

abbrev pub begin_in : Option Slice → ℕ
begin_in None = 0
begin_in (Some s) = s.begin

abbrev pub begin_from : Option Slice → Option Slice → ℕ
begin_from None other = begin_in other
begin_from (Some s) other = s.begin

-- the time before which the event doesn't happen: the begin of its slice; of a return in no slice,
-- that of the call
abbrev pub begin_of : Course → Event → ℕ
begin_of C e = begin_from (event_slice C e) (slice_of (slices_of C e.row.thread) e.row.step)

-- the one event's slice ends before the other one may happen
pub record EndsBefore (C : Course) (e f : Event) : Type 0 where
  pub slice : Slice
  pub in_slice : event_slice C e ≡ Some slice
  pub less : slice.end < begin_of C f

abbrev pub Sooner : Course → Event → Event → Type 0
Sooner C e f = ((e.row.thread ≡ f.row.thread) × IsOwnBefore e f) ⊎ EndsBefore C e f

abbrev pub is_entry : Part → Bool
is_entry entry = true
is_entry _ = false

abbrev pub is_return : Part → Bool
is_return return = true
is_return _ = false

abbrev pub own_before : Event → Event → Bool
own_before e f = (e.row.thread == f.row.thread) && (nat_lt e.row.step f.row.step || ((e.row.step == f.row.step) && (is_entry e.part && is_return f.part)))

abbrev pub ends_by : Option Slice → ℕ → Bool
ends_by None time = false
ends_by (Some s) time = nat_lt s.end time

-- whether the order puts the one event before the other
abbrev pub sooner : Course → Event → Event → Bool
sooner C e f = own_before e f || ends_by (event_slice C e) (begin_of C f)

abbrev pub same_part : Part → Part → Bool
same_part whole whole = true
same_part entry entry = true
same_part return return = true
same_part _ _ = false

abbrev pub same_row : Row → Row → Bool
same_row q r = (q.thread == r.thread) && (q.step == r.step)

abbrev pub sooner_or_same : Course → Event → Event → Bool
sooner_or_same C e f = (same_row e.row f.row && same_part e.part f.part) || sooner C e f

-- whether the order puts the one moment no later than the other
abbrev pub not_later : Course → Moment → Moment → Bool
not_later C (before q) (before r) = sooner_or_same C (first_event C q) (first_event C r)
not_later C (before q) (after r) = sooner_or_same C (first_event C q) (last_event C r)
not_later C (after q) (before r) = sooner C (last_event C q) (first_event C r)
not_later C (after q) (after r) = sooner_or_same C (last_event C q) (last_event C r)
not_later C at_end (before r) = false
not_later C at_end (after r) = false
not_later C _ at_end = true

abbrev pub same_moment : Moment → Moment → Bool
same_moment (before q) (before r) = same_row q r
same_moment (after q) (after r) = same_row q r
same_moment at_end at_end = true
same_moment _ _ = false

abbrev pub is_earlier : Course → Moment → Moment → Bool
is_earlier C m w = not_later C m w && not (same_moment m w)

abbrev pub late_by : Option ℕ → ℕ → Bool
late_by None time = false
late_by (Some d) time = nat_lt d time

-- whether the order puts all that the untraced prefix writes before the moment
abbrev pub untraced_before : Course → Moment → Bool
untraced_before C (before r) = late_by C.untraced (begin_of C (first_event C r))
untraced_before C (after r) = late_by C.untraced (begin_of C (last_event C r))
untraced_before C at_end = true

-- whether it puts the whole act before the moment, or after it
abbrev pub wholly_before : Course → Act → Moment → Bool
wholly_before C (row r) m = not_later C (after r) m
wholly_before C untraced m = untraced_before C m

abbrev pub wholly_after : Course → Act → Moment → Bool
wholly_after C (row r) w = not_later C w (before r)
wholly_after C untraced w = false

abbrev pub is_row : Act → Row → Bool
is_row (row q) r = same_row q r
is_row untraced r = false

-- whether the moments aren't those of one row that is no call, or the act is that row
abbrev pub has_room : Course → Act → Moment → Moment → Bool
has_room C act (before q) (after r) = not (same_row q r && not (calls C r)) || is_row act r
has_room C act _ _ = true

-- whether the act may act between the two moments
abbrev pub may_act_between : Course → Act → Moment → Moment → Bool
may_act_between C act m w = not (wholly_before C act m) && (not (wholly_after C act w) && has_room C act m w)
