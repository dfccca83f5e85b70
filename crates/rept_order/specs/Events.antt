-- What happens in a run of several threads, and which of it comes before which. A row that is no
-- call happens at once. A call is entered in its slice, and it returns as the thread's next slice
-- begins. This project's own.
use Rattle.std.specs.Prelude.{◌≡◌, ℕ, ◌<◌, ◌⊎◌, Bool, true, false, List, [], ◌∷◌, Option, Some}
use Rattle.rept_steps.specs.declared.slice.Slice.{Slice}
use Rattle.rept_steps.specs.Course.{Course, Row, IsRow, calls, slices_of, slice_of, slice_after}

pub data Part : Type 0 where
  -- a row that is no call
  whole : Part
  -- a call's entry, and its return
  entry : Part
  return : Part

pub record Event : Type 0 where
  pub row : Row
  pub part : Part

abbrev pub FitsRow : Bool → Part → Type 0
FitsRow is_call whole = is_call ≡ false
FitsRow is_call entry = is_call ≡ true
FitsRow is_call return = is_call ≡ true

-- it is an event of the course
pub record IsEvent (C : Course) (e : Event) : Type 0 where
  pub row : IsRow C e.row
  pub part : FitsRow (calls C e.row) e.part

abbrev pub first_part : Bool → Part
first_part false = whole
first_part true = entry

abbrev pub last_part : Bool → Part
last_part false = whole
last_part true = return

-- the row's first event, and its last one
abbrev pub first_event : Course → Row → Event
first_event C r = record { row = r; part = first_part (calls C r) }

abbrev pub last_event : Course → Row → Event
last_event C r = record { row = r; part = last_part (calls C r) }

abbrev pub slice_by : Part → List Slice → ℕ → Option Slice
slice_by return slices i = slice_after slices i
slice_by _ slices i = slice_of slices i

-- The slice in which it happens. A call that no slice follows returns in none.
abbrev pub event_slice : Course → Event → Option Slice
event_slice C e = slice_by e.part (slices_of C e.row.thread) e.row.step

-- why an event comes before another one
pub data IsBefore (C : Course) (e f : Event) : Type 0 where
  -- it is of an earlier row of the thread
  by_row : e.row.thread ≡ f.row.thread → e.row.step < f.row.step → IsBefore C e f
  -- a call is entered before it returns
  by_call : e.row ≡ f.row → e.part ≡ entry → f.part ≡ return → IsBefore C e f
  -- its slice ends before the other's begins
  by_time : (s u : Slice) → event_slice C e ≡ Some s → event_slice C f ≡ Some u → s.end < u.begin → IsBefore C e f

-- the one event comes directly before the other
pub record Before (C : Course) (e f : Event) : Type 0 where
  pub first : IsEvent C e
  pub second : IsEvent C f
  pub why : IsBefore C e f

-- each of these events comes directly before the next one: e, those of the list, f
abbrev pub Chain : Course → Event → List Event → Event → Type 0
Chain C e [] f = Before C e f
Chain C e (x ∷ xs) f = Before C e x × Chain C x xs f

-- the order puts the one event before the other, directly or by way of others
abbrev pub Precedes : Course → Event → Event → Type 0
Precedes C e f = (xs : List Event) × Chain C e xs f

-- it is the same, or before
abbrev pub PrecedesOrIs : Course → Event → Event → Type 0
PrecedesOrIs C e f = (e ≡ f) ⊎ Precedes C e f

-- its slice begins after the untraced prefix
pub record IsAfterUntraced (C : Course) (e : Event) : Type 0 where
  pub event : IsEvent C e
  pub untraced : ℕ
  pub slice : Slice
  pub is_untraced : C.untraced ≡ Some untraced
  pub in_slice : event_slice C e ≡ Some slice
  pub late : untraced < slice.begin

-- the order puts all that the untraced prefix writes before the event
abbrev pub UntracedPrecedes : Course → Event → Type 0
UntracedPrecedes C e = (f : Event) × IsAfterUntraced C f × PrecedesOrIs C f e
