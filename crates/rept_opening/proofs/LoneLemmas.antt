-- Each execution of the steps of one thread is one of its run, in however many slices it ran.
use Rattle.std.proofs.Common.{◌≡◌, ◌⊎◌, ℕ, zero, suc, ◌+◌, ◌<◌, ◌≤◌, Bool, true, false, List, [], ◌∷◌, length, slice_get, Option, None, Some, inl, inr, refl, sym, ap, ◌∙◌, subst, arith}
use Rattle.std.specs.Prelude.{bit_and}
use Rattle.std.proofs.lemmas.Bool.{cases_lt, cases_order, false≢true}
use Rattle.rept_isa.specs.declared.row.StepRow.{StepRow}
use Rattle.rept_machine.specs.State.{State}
use Rattle.rept_machine.specs.Calls.{MayChange}
use Rattle.rept_steps.specs.declared.slice.Slice.{Slice}
use Rattle.rept_steps.specs.declared.threads.ThreadRows.{ThreadRows}
use Rattle.rept_steps.specs.Course.{Course, Row, row_of, rows_of, IsRow, row_at, is_call_row, calls, IsAlone, IsSoundCourse}
use Rattle.rept_steps.specs.Runs.{whole_slice, thread_of_one}
use Rattle.rept_order.specs.Events.{Part, Event, IsEvent, FitsRow, first_part, last_part, first_event, last_event, IsBefore, Before, Precedes}
use Rattle.rept_order.specs.Events.Part.{whole, entry, return}
use Rattle.rept_order.specs.Events.IsBefore.{by_row, by_call, by_time}
use Rattle.rept_order.specs.Moments.{Moment, Act}
use Rattle.rept_order.specs.Moments.Moment.{before, after, at_end}
use Rattle.rept_order.specs.Moments.Act.{row, untraced}
use Rattle.rept_order.specs.History.{Move, move_at, Happening, History, Ending, IsExecution, tick, state_at, seen_by, Occurs, ExecutesRow, Returns, CallChanges, Does}
use Rattle.rept_order.specs.History.Happening.{event, change, nothing}
use Rattle.rept_order.specs.Points.{moment_of_point, thread_registers, memory_at}
use Rattle.rept_order.specs.Alone.{SavesOne, RunsAlone, IsShared, ShowsRun}
use Rattle.rept_order.proofs.Alone.{alone_shared}
use Rattle.rept_order.proofs.Sequence.{directly, precedes_trans}
use Rattle.rept_order.proofs.Times.{precedes_irreflexive}
use Rattle.rept_dump.specs.Program.{Program}
use Rattle.rept_elf.specs.Segments.{ElfSegment}
use Rattle.rept_found.specs.Crash.{Crash, Means, Scene, ending_of, path_of, trip_by}
use Rattle.rept_found.specs.Truth.{ExecutesPath}
use Rattle.rept_found.specs.Histories.{IsPointOf, IsTrueIn, IsTrueTrip, value_at}
use Rattle.rept_found.specs.Telling.{shown_on}
use Rattle.rept_found.specs.Trip.Trip.{Trip}
use Rattle.rept_found.proofs.Settings.{points_are}
use Rattle.rept_found.proofs.TripLemmas.Paths.{is_sound}
use Rattle.rept_found.proofs.TripLemmas.Pointing.{at_point, moment_inside, moment_last}
use Rattle.rept_findings.specs.Shown.{IsThreadPoint, Shown, moment_at, number}
use Rattle.rept_findings.specs.declared.place.ThreadPoint.{ThreadPoint}
use Rattle.rept_moments.specs.Seen.{seen}
use Rattle.rept_reason.specs.Facts.{Knowledge}
use Rattle.rept_opening.specs.True.{IsTrueAtPoints, first_at, lone_by}

-- one thread with these rows in these slices, all of which is told
abbrev pub lone : List StepRow → List Slice → Course
lone rows slices = record { threads = record { steps = rows; slices = slices } ∷ []; untraced = None }

pub some_none : {d : ℕ} → None ≡ Some d → ⊥
some_none e = cc

entry_whole : {b : Bool} → b ≡ true → b ≡ false → ⊥
entry_whole t f = false≢true (sym f ∙ t)

module _ (rows : List StepRow) (slices : List Slice) where
  abbrev pub C : Course
  C = lone rows slices

  -- the same in one slice
  abbrev pub B : Course
  B = lone rows (whole_slice (length rows) ∷ [])

  rows_same : (t : ℕ) → rows_of C t ≡ rows_of B t
  rows_same zero = refl
  rows_same (suc t) = refl

  pub at_same : (r : Row) → row_at C r ≡ row_at B r
  at_same r = ap (λ (xs : List StepRow). slice_get xs r.step) (rows_same r.thread)

  pub calls_same : (r : Row) → calls C r ≡ calls B r
  calls_same r = ap is_call_row (at_same r)

  pub row_from_one : (r : Row) → IsRow B r → IsRow C r
  row_from_one r is = subst (λ (xs : List StepRow). r.step < length xs) (sym (rows_same r.thread)) is

  pub row_to_one : (r : Row) → IsRow C r → IsRow B r
  row_to_one r is = subst (λ (xs : List StepRow). r.step < length xs) (rows_same r.thread) is

  pub event_from_one : (e : Event) → IsEvent B e → IsEvent C e
  event_from_one e is = record { row = row_from_one e.row is.row; part = subst (λ (b : Bool). FitsRow b e.part) (sym (calls_same e.row)) is.part }

  pub event_to_one : (e : Event) → IsEvent C e → IsEvent B e
  event_to_one e is = record { row = row_to_one e.row is.row; part = subst (λ (b : Bool). FitsRow b e.part) (calls_same e.row) is.part }

  first_same : (r : Row) → first_event C r ≡ first_event B r
  first_same r = ap (λ (b : Bool). let e : Event = record { row = r; part = first_part b } in e) (calls_same r)

  last_same : (r : Row) → last_event C r ≡ last_event B r
  last_same r = ap (λ (b : Bool). let e : Event = record { row = r; part = last_part b } in e) (calls_same r)

  module _ (h : History) where
    pub tick_same : (m : Moment) → tick C h m ≡ tick B h m
    tick_same (before r) = ap h.place (first_same r)
    tick_same (after r) = ap (λ (e : Event). suc (h.place e)) (last_same r)
    tick_same at_end = refl

    pub state_same : (t : ℕ) (m : Moment) → state_at C h t m ≡ state_at B h t m
    state_same t m = ap (λ (k : ℕ). seen_by t (h.world k)) (tick_same m)

    occurs : (D : Ending) (r : Row) (m : Move) (p : Part) → Occurs B D r m p → Occurs C D r m p
    occurs D r m whole x = record { its_row = x.its_row; is_row = at_same r ∙ x.is_row; step = x.step; others = x.others }
    occurs D r m entry x = x
    occurs D r m return x = record { its_row = x.its_row; is_row = at_same r ∙ x.is_row; onward = x.onward; own = x.own; others = x.others; memory = x.memory }

    call_changes : (D : Ending) (k : ℕ) (r : Row) → CallChanges B D h k r → CallChanges C D h k r
    call_changes D k r x =
        let first = tick_same (before r) in
        let last = tick_same (after r) in
        let entered = x.entered in
        let pending = x.pending in
        record {
          call = calls_same r ∙ x.call;
          is_row = row_from_one r x.is_row;
          entered = subst (λ (n : ℕ). n < k) (sym first) entered;
          pending = subst (λ (n : ℕ). suc k < n) (sym last) pending;
          registers = x.registers;
          memory = λ a out. x.memory a (λ may. out
              (subst (λ (s : State). MayChange D.image_end s.register ((state_at C h r.thread (after r)).register 10) a) (sym (state_same r.thread (before r)))
              (subst (λ (s : State). MayChange D.image_end (state_at B h r.thread (before r)).register (s.register 10) a) (sym (state_same r.thread (after r))) may)));
        }

    does : (D : Ending) (k : ℕ) (x : Happening) → Does B D h k x → Does C D h k x
    does D k (event e) x = occurs D e.row (move_at h k) e.part x
    does D k (change (row r)) x = call_changes D k r x
    does D k (change untraced) x = absurd (some_none x.told.1)
    does D k nothing x = x

  pub only_row : (r : Row) → IsRow C r → r.thread ≡ 0
  only_row r is = by r.thread is
    where
      by : (t : ℕ) → r.step < length (rows_of C t) → t ≡ 0
      by zero k = refl
      by (suc t) k = absurd (omega (arith, k))

  module _ (sound : IsSoundCourse C) where
    never_back : (e f : Event) → Before C e f → Before C f e → ⊥
    never_back e f one other = precedes_irreflexive C sound e (precedes_trans C e f e (directly C e f one) (directly C f e other))

    -- an event that the order puts before another one is of an earlier row, or the same call
    pub by_place : (e f : Event) → Before C e f → IsBefore B e f
    by_place e f b =
        let same : e.row.thread ≡ f.row.thread = only_row e.row b.first.row ∙ sym (only_row f.row b.second.row) in
        elim (cases_order e.row.step f.row.step) [
          | inl step ↦ parts e.part f.part refl refl (rows_are same step)
          | inr (inl less) ↦ by_row same less
          | inr (inr more) ↦ absurd (never_back e f b (record { first = b.second; second = b.first; why = by_row (sym same) more }))
        ]
      where
        rows_are : e.row.thread ≡ f.row.thread → e.row.step ≡ f.row.step → e.row ≡ f.row
        rows_are t s = ap (λ (n : ℕ). row_of n e.row.step) t ∙ ap (λ (n : ℕ). row_of f.row.thread n) s

        again : (p : Part) → e.part ≡ p → f.part ≡ p → e.row ≡ f.row → IsBefore B e f
        again p one other is =
            let same : e ≡ f = ap (λ (r : Row). let x : Event = record { row = r; part = e.part } in x) is ∙ ap (λ (q : Part). let x : Event = record { row = f.row; part = q } in x) (one ∙ sym other) in
            absurd (precedes_irreflexive C sound f (directly C f f (subst (λ (x : Event). Before C x f) same b)))

        call_of : (p : Part) → e.part ≡ p → FitsRow (calls C e.row) p
        call_of p is = subst (λ (q : Part). FitsRow (calls C e.row) q) is b.first.part

        other_of : (p : Part) → f.part ≡ p → e.row ≡ f.row → FitsRow (calls C e.row) p
        other_of p is same = subst (λ (r : Row). FitsRow (calls C r) p) (sym same) (subst (λ (q : Part). FitsRow (calls C f.row) q) is b.second.part)

        parts : (p q : Part) → e.part ≡ p → f.part ≡ q → e.row ≡ f.row → IsBefore B e f
        parts whole whole one other is = again whole one other is
        parts entry entry one other is = again entry one other is
        parts return return one other is = again return one other is
        parts entry return one other is = by_call is one other
        parts return entry one other is = absurd (never_back e f b (record { first = b.second; second = b.first; why = by_call (sym is) other one }))
        parts whole entry one other is = absurd (entry_whole (other_of entry other is) (call_of whole one))
        parts whole return one other is = absurd (entry_whole (other_of return other is) (call_of whole one))
        parts entry whole one other is = absurd (entry_whole (call_of entry one) (other_of whole other is))
        parts return whole one other is = absurd (entry_whole (call_of return one) (other_of whole other is))

    execution_of : (D : Ending) (h : History) → IsExecution B D h → IsExecution C D h
    execution_of D h x = record {
      happens = λ e is. x.happens e (event_to_one e is);
      once = λ k e below found. (let o = x.once k e below found in (event_from_one e o.0, o.1));
      ordered = λ e f b. x.ordered e f (record { first = event_to_one e b.first; second = event_to_one f b.second; why = by_place e f b });
      states = x.states;
      does = λ k below. does h D k (h.happening k) (x.does k below);
      registers_end = x.registers_end;
      bytes_end = x.bytes_end;
    }

    pub shows : (h : History) (run : ℕ → State) → ShowsRun B h run → ShowsRun C h run
    shows h run x = record {
      registers = λ p below. ap (λ (k : ℕ). (h.world k).register 0) (tick_same h (moment_of_point C 0 p)) ∙ x.registers p below;
      memory_before = λ i below. ap (λ (k : ℕ). (h.world k).memory) (tick_same h (before (row_of 0 i))) ∙ x.memory_before i below;
      memory_after = λ i below. ap (λ (k : ℕ). (h.world k).memory) (tick_same h (after (row_of 0 i))) ∙ x.memory_after i below;
      memory_end = x.memory_end;
    }

  pub one_alone : IsAlone B
  one_alone = record { thread = thread_of_one rows; slice = whole_slice (length rows); only = refl; whole = refl; told = refl }

  pub lone_shared : (D : Ending) (run : ℕ → State) → IsSoundCourse C → IsSoundCourse B → SavesOne D → RunsAlone C D run → IsShared C D run
  lone_shared D run sound one saves x =
      let s = alone_shared B one_alone D run x one saves in
      (s.0, execution_of sound D s.0 s.1, shows sound s.0 run s.2)

-- a run of one thread is such a course
same_rows : {x y : List StepRow} → Some x ≡ Some y → x ≡ y
same_rows e = cc

none_rows : {x : List StepRow} → None ≡ Some x → ⊥
none_rows e = cc

pub lone_course : (threads : List ThreadRows) (told : Option ℕ) (rows : List StepRow) → lone_by threads told ≡ Some rows → (slices : List Slice) × (◌≡◌ {A = Course} (record { threads = threads; untraced = told }) (lone rows slices))
lone_course [] told rows e = absurd (none_rows e)
lone_course (thread ∷ []) None rows e = (thread.slices, ap (λ (xs : List StepRow). lone xs thread.slices) (same_rows e))
lone_course (thread ∷ []) (Some d) rows e = absurd (none_rows e)
lone_course (thread ∷ other ∷ threads) told rows e = absurd (none_rows e)

abbrev pub crash_with : Program → List ElfSegment → List (List ℕ) → Crash
crash_with exe core notes = record { exe = exe; core = core; notes = notes }

saves_first : (exe : Program) (core : List ElfSegment) (note : List ℕ) → SavesOne (ending_of (crash_with exe core (note ∷ [])))
saves_first exe core note zero s some = absurd (omega (arith, some))
saves_first exe core note (suc t) s some = refl

pub lone_run : {W : Type 0} (m : Means W) (exe : Program) (core : List ElfSegment) (notes : List (List ℕ)) (C : Course) (rows : List StepRow) (states : ℕ → State) → IsSoundCourse C → lone_by C.threads C.untraced ≡ Some rows → length notes ≡ 1
    → ExecutesPath (path_of m (crash_with exe core notes) rows) states → IsShared C (ending_of (crash_with exe core notes)) states
lone_run m exe core [] C rows states sound e one x = absurd (omega (arith, one))
lone_run m exe core (note ∷ []) C rows states sound e one x =
    let its = lone_course C.threads C.untraced rows e in
    let D : Ending = ending_of (crash_with exe core (note ∷ [])) in
    subst (λ (B : Course). IsSoundCourse B → IsShared B D states) (sym its.1) (λ own. lone_shared rows its.0 D states own (is_sound rows) (saves_first exe core note) x) sound
lone_run m exe core (note ∷ other ∷ notes) C rows states sound e one x = absurd (omega (arith, one))

-- what is told at points holds in an execution that is one of the run
module _ {W : Type 0} (m : Means W) (rows : List StepRow) (slices : List Slice) (D : Ending) (K : Knowledge) (sound : IsSoundCourse (lone rows slices)) (trip : IsTrueTrip (trip_by m (lone rows slices) D) K) (states : ℕ → State)
    (shared : IsShared (lone rows slices) D states) (scene : Scene) where
  abbrev run_course : Course
  run_course = lone rows slices

  abbrev told_trip : Trip W
  told_trip = trip_by m run_course D

  abbrev told : Shown
  told = shown_on told_trip K scene

  abbrev h : History
  h = shared.0

  answers : IsTrueIn told_trip told h
  answers = trip.answers scene h shared.1

  is_point : (q : ℕ) → q ≤ length rows → IsThreadPoint told (first_at q)
  is_point q few = (omega arith, few)

  named : (q : ℕ) → q ≤ length rows → IsPointOf told_trip told (first_at q)
  named q few = trip.points scene (first_at q) (is_point q few)

  inside : (q : ℕ) → q ≤ length rows → number told (first_at q) < told.points
  inside q few =
      let count : suc (seen run_course).legs.count ≡ suc (length rows) + 0 = points_are run_course (omega arith) in
      omega (arith, count, few)

  within : (q : ℕ) → q ≤ length rows → moment_at told (first_at q) < told.moments
  within q few =
      let its : moment_at told (first_at q) ≤ (seen run_course).moments.end = (at_point run_course sound 0 q (omega arith) few).within in
      omega (arith, its)

  registers_are : (q : ℕ) → q ≤ length rows → (r : ℕ) → value_at told_trip h (told.point (number told (first_at q))) r ≡ (states q).register r
  registers_are q few r = ap (λ (c : ThreadPoint). value_at told_trip h c r) (named q few).point ∙ ap (λ (f : ℕ → ℕ). f r) (shared.2.registers q few)

  memory_is : (q : ℕ) → q ≤ length rows → memory_at run_course h (moment_of_point run_course 0 q) ≡ (states q).memory
  memory_is q few =
      elim (cases_lt q (length rows)) [
        | inl below ↦ ap (λ (x : Moment). memory_at run_course h x) (moment_inside run_course 0 q below) ∙ shared.2.memory_before q below
        | inr past ↦
            let end : length rows ≡ q = omega (arith, few, past) in
            ap (λ (x : Moment). memory_at run_course h x) (moment_last run_course 0 q past) ∙ shared.2.memory_end ∙ ap (λ (k : ℕ). (states k).memory) end
      ]

  at_points : IsTrueAtPoints told rows states
  at_points = record {
    registers = λ q r v few is. sym (registers_are q few r) ∙ answers.registers (number told (first_at q)) r v (inside q few) is;
    ranges = λ q r few. (let its = answers.ranges (number told (first_at q)) r (inside q few) in
        subst (λ (v : ℕ). ((told.range (number told (first_at q)) r).lo ≤ v) × (v ≤ (told.range (number told (first_at q)) r).hi)) (registers_are q few r) its);
    notes = λ q r n few is. sym (ap (λ (v : ℕ). bit_and v n.0) (registers_are q few r)) ∙ answers.notes (number told (first_at q)) r n (inside q few) is;
    bytes = λ q a v few is.
        sym (ap (λ (f : ℕ → ℕ). f a) (memory_is q few))
        ∙ sym (ap (λ (x : Moment). memory_at run_course h x a) (named q few).moment)
        ∙ answers.bytes (moment_at told (first_at q)) a v (within q few) is;
  }

pub lone_told : {W : Type 0} (m : Means W) (C : Course) (D : Ending) (K : Knowledge) (rows : List StepRow) (states : ℕ → State) → IsSoundCourse C → lone_by C.threads C.untraced ≡ Some rows → IsTrueTrip (trip_by m C D) K → IsShared C D states → (scene : Scene) → IsTrueAtPoints (shown_on (trip_by m C D) K scene) rows states
lone_told m C D K rows states sound e trip shared scene =
    let its = lone_course C.threads C.untraced rows e in
    subst (λ (B : Course). IsSoundCourse B → IsTrueTrip (trip_by m B D) K → IsShared B D states → IsTrueAtPoints (shown_on (trip_by m B D) K scene) rows states) (sym its.1)
    (λ own told of. at_points m rows its.0 D K own told states of scene) sound trip shared
