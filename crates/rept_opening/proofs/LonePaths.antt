-- Each execution of a run of one thread, in however many slices, is one of its steps by themselves.
use Rattle.std.proofs.Common.{◌≡◌, ℕ, suc, ◌+◌, ◌<◌, ◌≤◌, ◌==◌, Bool, true, false, not, List, [], ◌∷◌, length, slice_get, Option, Some, MatchOption, inl, inr, refl, sym, ap, ◌∙◌, subst, arith}
use Rattle.std.proofs.Math.Path.{fun_ext}
use Rattle.std.proofs.lemmas.Bool.{cases_lt, false≢true, lt-ltb, le-ltb}
use Rattle.std.proofs.lemmas.Option.{slice_get_within}
use Rattle.rept_isa.specs.Operands.{is_call}
use Rattle.rept_isa.specs.Rows.{Addresses, addresses_of}
use Rattle.rept_isa.specs.declared.instr.Instr.{Instr}
use Rattle.rept_isa.specs.declared.instr.Instr.TheVariants.{Ecall}
use Rattle.rept_isa.specs.declared.row.StepRow.{StepRow}
use Rattle.rept_machine.specs.Calls.{MayChange}
use Rattle.rept_machine.specs.State.{State}
use Rattle.rept_machine.specs.Step.{Calls, HasEffect, IsStep}
use Rattle.rept_machine.specs.Writes.{WritesBy}
use Rattle.rept_steps.specs.declared.slice.Slice.{Slice}
use Rattle.rept_steps.specs.Course.{Course, Row, row_of, IsRow, row_at, is_call_row, calls, IsSoundCourse}
use Rattle.rept_order.specs.Events.{Part, Event, IsBefore, Before}
use Rattle.rept_order.specs.Events.Part.{whole, entry, return}
use Rattle.rept_order.specs.Events.IsBefore.{by_row, by_call, by_time}
use Rattle.rept_order.specs.Moments.{Moment, IsMoment, Act, IsAct, stretch, MayAct}
use Rattle.rept_order.specs.Moments.Moment.{before, after, at_end}
use Rattle.rept_order.specs.Moments.Act.{row, untraced}
use Rattle.rept_order.specs.Moments.ArePause.{between, last}
use Rattle.rept_order.specs.History.{Move, move_at, Happening, History, Ending, IsExecution, state_at, Occurs, CallChanges, Does}
use Rattle.rept_order.specs.History.Happening.{event, change, nothing}
use Rattle.rept_order.specs.Points.{moment_of_point, thread_registers, memory_at, state_from}
use Rattle.rept_order.specs.Writing.{ActWrites}
use Rattle.rept_order.specs.Alone.{RunsAlone, ShowsRun}
use Rattle.rept_order.proofs.Between.{row_forward}
use Rattle.rept_order.proofs.Lone.{alone_quiet, pause_alone}
use Rattle.rept_order.proofs.Points.{plain_step, call_step, one_memory, point_state, registers_after, registers_before, registers_saved}
use Rattle.rept_order.proofs.Quiet.{still_stays}
use Rattle.rept_order.proofs.Times.{alone_never, begin_is}
use Rattle.rept_dump.specs.Program.{Program}
use Rattle.rept_elf.specs.Segments.{ElfSegment}
use Rattle.rept_found.specs.Crash.{Means, ending_of, path_of}
use Rattle.rept_found.proofs.TripLemmas.Paths.{is_sound}
use Rattle.rept_opening.specs.True.{IsOfPath, lone_by}
use Rattle.rept_opening.proofs.LoneLemmas.{lone, C, B, at_same, calls_same, crash_with, row_from_one, row_to_one, event_from_one, event_to_one, lone_course, only_row, one_alone, shows, some_none, state_same, tick_same}

call_of : (instr : Instr) (image_end : ℕ) (place : Addresses) (s t : State) → is_call instr ≡ true → HasEffect instr image_end place s t → Calls image_end place s t
call_of Ecall image_end place s t e k = k
call_of _ image_end place s t e k = absurd (false≢true e)

effect_of : (instr : Instr) (image_end : ℕ) (place : Addresses) (s t : State) → is_call instr ≡ true → Calls image_end place s t → HasEffect instr image_end place s t
effect_of Ecall image_end place s t e k = k
effect_of _ image_end place s t e k = absurd (false≢true e)

-- what a call writes it may change
changes_of : (instr : Instr) (image_end : ℕ) (s t : State) (a : ℕ) → is_call instr ≡ true → WritesBy instr image_end s t a → MayChange image_end s.register (t.register 10) a
changes_of Ecall image_end s t a e w = w
changes_of _ image_end s t a e w = absurd (false≢true e)

module _ (rows : List StepRow) (slices : List Slice) where
  -- an execution in these slices is one in one slice
  module _ (h : History) where
    occurs_one : (D : Ending) (r : Row) (m : Move) (p : Part) → Occurs (C rows slices) D r m p → Occurs (B rows slices) D r m p
    occurs_one D r m whole x = record { its_row = x.its_row; is_row = sym (at_same rows slices r) ∙ x.is_row; step = x.step; others = x.others }
    occurs_one D r m entry x = x
    occurs_one D r m return x = record { its_row = x.its_row; is_row = sym (at_same rows slices r) ∙ x.is_row; onward = x.onward; own = x.own; others = x.others; memory = x.memory }

    changes_one : (D : Ending) (k : ℕ) (r : Row) → CallChanges (C rows slices) D h k r → CallChanges (B rows slices) D h k r
    changes_one D k r x =
        let first = tick_same rows slices h (before r) in
        let latest = tick_same rows slices h (after r) in
        let entered = x.entered in
        let pending = x.pending in
        record {
          call = sym (calls_same rows slices r) ∙ x.call;
          is_row = row_to_one rows slices r x.is_row;
          entered = subst (λ (n : ℕ). n < k) first entered;
          pending = subst (λ (n : ℕ). suc k < n) latest pending;
          registers = x.registers;
          memory = λ a out. x.memory a (λ may. out
              (subst (λ (s : State). MayChange D.image_end s.register ((state_at (B rows slices) h r.thread (after r)).register 10) a) (state_same rows slices h r.thread (before r))
              (subst (λ (s : State). MayChange D.image_end (state_at (C rows slices) h r.thread (before r)).register (s.register 10) a) (state_same rows slices h r.thread (after r)) may)));
        }

    does_one : (D : Ending) (k : ℕ) (x : Happening) → Does (C rows slices) D h k x → Does (B rows slices) D h k x
    does_one D k (event e) x = occurs_one D e.row (move_at h k) e.part x
    does_one D k (change (row r)) x = changes_one D k r x
    does_one D k (change untraced) x = absurd (some_none x.told.1)
    does_one D k nothing x = x

  before_of : IsSoundCourse (B rows slices) → (e f : Event) → Before (B rows slices) e f → Before (C rows slices) e f
  before_of one e f b = record { first = event_from_one rows slices e b.first; second = event_from_one rows slices f b.second; why = by b.why }
    where
      by : IsBefore (B rows slices) e f → IsBefore (C rows slices) e f
      by (by_row same less) = by_row same less
      by (by_call same first second) = by_call same first second
      by (by_time s u is its less) = absurd (alone_never (B rows slices) one (one_alone rows slices) e f b.second (record { slice = s; in_slice = is; less = let begin = begin_is (B rows slices) one f u its in omega arith }))

  execution_one : (D : Ending) (h : History) → IsSoundCourse (B rows slices) → IsExecution (C rows slices) D h → IsExecution (B rows slices) D h
  execution_one D h one x = record {
    happens = λ e is. x.happens e (event_from_one rows slices e is);
    once = λ k e below found. (let o = x.once k e below found in (event_to_one rows slices e o.0, o.1));
    ordered = λ e f b. x.ordered e f (before_of one e f b);
    states = x.states;
    does = λ k below. does_one h D k (h.happening k) (x.does k below);
    registers_end = x.registers_end;
    bytes_end = x.bytes_end;
  }

  module _ (D : Ending) (h : History) (one : IsSoundCourse (B rows slices)) (x : IsExecution (B rows slices) D h) where
    -- the states at points
    abbrev state_of_point : ℕ → State
    state_of_point q = state_from (thread_registers (B rows slices) h 0 q) (memory_at (B rows slices) h (moment_of_point (B rows slices) 0 q))

    inside_is : (q : ℕ) → q < length rows → moment_of_point (B rows slices) 0 q ≡ before (row_of 0 q)
    inside_is q below = rw (lt-ltb q (length rows) below) refl

    past_is : (q : ℕ) → length rows ≤ q → moment_of_point (B rows slices) 0 q ≡ at_end
    past_is q past = rw (le-ltb q (length rows) past) refl

    abbrev memory_of : Moment → (ℕ → ℕ)
    memory_of m = memory_at (B rows slices) h m

    -- the memory after a step is that at the next point
    onward_memory : (i : ℕ) → i < length rows → memory_at (B rows slices) h (after (row_of 0 i)) ≡ memory_at (B rows slices) h (moment_of_point (B rows slices) 0 (suc i))
    onward_memory i below =
        elim (cases_lt (suc i) (length rows)) [
          | inl more ↦
              let same = fun_ext (one_memory (B rows slices) D h x (stretch (after (row_of 0 i)) (before (row_of 0 (suc i)))) (pause_alone (B rows slices) one (one_alone rows slices) (stretch (after (row_of 0 i)) (before (row_of 0 (suc i)))) (between 0 i more refl))) in
              sym same ∙ sym (ap memory_of (inside_is (suc i) more))
          | inr past ↦
              let same = fun_ext (one_memory (B rows slices) D h x (stretch (after (row_of 0 i)) at_end) (pause_alone (B rows slices) one (one_alone rows slices) (stretch (after (row_of 0 i)) at_end) (last 0 i (omega (arith, below, past)) refl))) in
              sym same ∙ sym (ap memory_of (past_is (suc i) past))
        ]

    -- between the moments of a call only this call acts
    own_row : (i : ℕ) → i < length rows → (q : Row) → IsRow (B rows slices) q → MayAct (B rows slices) (row q) (stretch (before (row_of 0 i)) (after (row_of 0 i))) → q ≡ row_of 0 i
    own_row i below q is may =
        let quiet = alone_quiet (B rows slices) one (one_alone rows slices) (λ r a. not (r.step == i)) 0 (row_of 0 i) below (grind arith) in
        let other : not (q.step == i) ≡ false = quiet.quiet.spared (row q) is may in
        let step : q.step ≡ i = grind (arith, other) in
        let thread : q.thread ≡ 0 = only_row rows slices q (row_from_one rows slices q is) in
        ap (λ (t : ℕ). row_of t q.step) thread ∙ ap (λ (k : ℕ). row_of 0 k) step

    call_still : (i : ℕ) (its_row : StepRow) (a : ℕ) → i < length rows → row_at (B rows slices) (row_of 0 i) ≡ Some its_row → is_call its_row.instr ≡ true
        → (MayChange D.image_end (thread_registers (B rows slices) h 0 i) (thread_registers (B rows slices) h 0 (suc i) 10) a → ⊥)
        → (act : Act) → IsAct (B rows slices) act → MayAct (B rows slices) act (stretch (before (row_of 0 i)) (after (row_of 0 i))) → ActWrites (B rows slices) D h act a → ⊥
    call_still i its_row a below is call out (row q) inside may wrote =
        let own = own_row i below q inside may in
        let writes = subst (λ (r : Row). ActWrites (B rows slices) D h (row r) a) own wrote in
        let by = subst (λ (o : Option StepRow). MatchOption o ⊥ (λ r. WritesBy r.instr D.image_end (state_at (B rows slices) h 0 (before (row_of 0 i))) (state_at (B rows slices) h 0 (after (row_of 0 i))) a)) is writes in
        let changes = changes_of its_row.instr D.image_end (state_at (B rows slices) h 0 (before (row_of 0 i))) (state_at (B rows slices) h 0 (after (row_of 0 i))) a call by in
        out (subst (λ (f : ℕ → ℕ). MayChange D.image_end f (thread_registers (B rows slices) h 0 (suc i) 10) a) (sym (registers_before (B rows slices) D h x 0 i below))
        (subst (λ (f : ℕ → ℕ). MayChange D.image_end (state_at (B rows slices) h 0 (before (row_of 0 i))).register (f 10) a) (sym (registers_after (B rows slices) D h x 0 i below)) changes))
    call_still i its_row a below is call out untraced inside may wrote = some_none inside.1

    -- each row is a step from its point to the next one
    step_by : (i : ℕ) (its_row : StepRow) (b : Bool) → i < length rows → row_at (B rows slices) (row_of 0 i) ≡ Some its_row → calls (B rows slices) (row_of 0 i) ≡ b
        → IsStep D.image_end its_row (state_from (thread_registers (B rows slices) h 0 i) (memory_at (B rows slices) h (before (row_of 0 i)))) (state_from (thread_registers (B rows slices) h 0 (suc i)) (memory_at (B rows slices) h (after (row_of 0 i))))
    step_by i its_row false below is plain = plain_step (B rows slices) D h x 0 i below its_row is plain
    step_by i its_row true below is call =
        let instr : is_call its_row.instr ≡ true = sym (ap is_call_row is) ∙ call in
        let old : State = state_from (thread_registers (B rows slices) h 0 i) (memory_at (B rows slices) h (before (row_of 0 i))) in
        let still : State = state_from (thread_registers (B rows slices) h 0 (suc i)) (memory_at (B rows slices) h (before (row_of 0 i))) in
        let new : State = state_from (thread_registers (B rows slices) h 0 (suc i)) (memory_at (B rows slices) h (after (row_of 0 i))) in
        let c = call_of its_row.instr D.image_end (addresses_of its_row) old still instr (call_step (B rows slices) D h x 0 i below its_row (memory_at (B rows slices) h (before (row_of 0 i))) is call) in
        effect_of its_row.instr D.image_end (addresses_of its_row) old new instr (record {
          others = c.others;
          memory = λ a out. still_stays (B rows slices) D h x (stretch (before (row_of 0 i)) (after (row_of 0 i))) a below below (row_forward (B rows slices) (row_of 0 i) below) (call_still i its_row a below is instr out);
          onward = c.onward;
        })

    step_is : (i : ℕ) (its_row : StepRow) → slice_get rows i ≡ Some its_row → IsStep D.image_end its_row (state_of_point i) (state_of_point (suc i))
    step_is i its_row is =
        let below = slice_get_within rows i its_row is in
        let step = step_by i its_row (calls (B rows slices) (row_of 0 i)) below is refl in
        let old = subst (λ (f : ℕ → ℕ). IsStep D.image_end its_row (state_from (thread_registers (B rows slices) h 0 i) f) (state_from (thread_registers (B rows slices) h 0 (suc i)) (memory_at (B rows slices) h (after (row_of 0 i))))) (sym (ap memory_of (inside_is i below))) step in
        subst (λ (f : ℕ → ℕ). IsStep D.image_end its_row (state_of_point i) (state_from (thread_registers (B rows slices) h 0 (suc i)) f)) (onward_memory i below) old

    point_moment : (q : ℕ) → IsMoment (B rows slices) (moment_of_point (B rows slices) 0 q)
    point_moment q =
        elim (cases_lt q (length rows)) [
          | inl below ↦ subst (λ (m : Moment). IsMoment (B rows slices) m) (sym (inside_is q below)) below
          | inr past ↦ subst (λ (m : Moment). IsMoment (B rows slices) m) (sym (past_is q past)) tt
        ]

    runs_alone : RunsAlone (B rows slices) D state_of_point
    runs_alone = record {
      states = λ p few. point_state (B rows slices) D h x 0 p (moment_of_point (B rows slices) 0 p) (point_moment p);
      steps = λ i its_row is. (let next : suc i ≡ i + 1 = omega arith in subst (λ (k : ℕ). IsStep D.image_end its_row (state_of_point i) (state_of_point k)) next (step_is i its_row is));
      registers_end = λ r v some is. registers_saved (B rows slices) D h x 0 r v some is;
      bytes_end = λ a v is. ap (λ (m : Moment). memory_of m a) (past_is (length rows) (omega arith)) ∙ x.bytes_end a v is;
    }

    shows_run : ShowsRun (B rows slices) h state_of_point
    shows_run = record {
      registers = λ p few. refl;
      memory_before = λ i below. sym (ap memory_of (inside_is i below));
      memory_after = λ i below. onward_memory i below;
      memory_end = sym (ap memory_of (past_is (length rows) (omega arith)));
    }

  lone_states : (D : Ending) (h : History) → IsSoundCourse (C rows slices) → IsSoundCourse (B rows slices) → IsExecution (C rows slices) D h → (run : ℕ → State) × RunsAlone (C rows slices) D run × ShowsRun (C rows slices) h run
  lone_states D h sound one x =
      let its = execution_one D h one x in
      (state_of_point D h one its, runs_alone D h one its, shows rows slices sound h (state_of_point D h one its) (shows_run D h one its))

pub lone_path : {W : Type 0} (m : Means W) (exe : Program) (core : List ElfSegment) (notes : List (List ℕ)) (course : Course) (rows : List StepRow) (h : History) → IsSoundCourse course → lone_by course.threads course.untraced ≡ Some rows → length notes ≡ 1
    → IsExecution course (ending_of (crash_with exe core notes)) h → IsOfPath (path_of m (crash_with exe core notes) rows) course h
lone_path m exe core [] course rows h sound e one x = absurd (omega (arith, one))
lone_path m exe core (note ∷ []) course rows h sound e one x =
    let its = lone_course course.threads course.untraced rows e in
    let D : Ending = ending_of (crash_with exe core (note ∷ [])) in
    subst (λ (other : Course). IsSoundCourse other → IsExecution other D h → IsOfPath (path_of m (crash_with exe core (note ∷ [])) rows) other h) (sym its.1) (λ own is. lone_states rows its.0 D h own (is_sound rows) is) sound x
lone_path m exe core (note ∷ other ∷ notes) course rows h sound e one x = absurd (omega (arith, one))
