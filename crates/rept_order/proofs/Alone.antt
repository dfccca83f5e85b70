-- Each execution of the rows of one thread is one of the course. Three ticks belong to each row: a
-- call is entered at the first, changes memory at the second and returns at the third, and another
-- row is executed at the first.
use Rattle.std.proofs.Common.{◌≡◌, ◌≢◌, ℕ, zero, suc, ◌+◌, ◌*◌, ◌/◌, ◌%◌, ◌<◌, ◌≤◌, eqb, cond, Bool, true, false, List, [], ◌∷◌, length, Some, None, slice_get, unwrap_or, inl, inr, refl, sym, ap, ◌∙◌, subst, arith, lit<}
use Rattle.std.proofs.lemmas.Bool.{false≢true, cases_Bool, cases_order, cases_eq, cases_lt, ne_eqb}
use Rattle.rept_isa.specs.declared.instr.Instr.{Instr}
use Rattle.rept_isa.specs.declared.instr.Instr.TheVariants.{Ecall}
use Rattle.rept_isa.specs.declared.row.StepRow.{StepRow}
use Rattle.rept_isa.specs.Rows.{Addresses, addresses_of}
use Rattle.rept_isa.specs.Operands.{is_call}
use Rattle.rept_machine.specs.Calls.{MayChange}
use Rattle.rept_machine.specs.State.{State, IsState}
use Rattle.rept_machine.specs.Step.{IsStep, HasEffect, Calls}
use Rattle.std.proofs.lemmas.Option.{slice_get_cases}
use Rattle.rept_steps.specs.declared.threads.ThreadRows.{ThreadRows}
use Rattle.rept_steps.specs.Course.{Course, Row, row_of, no_thread, rows_of, IsRow, row_at, is_call_row, calls, IsAlone, IsSoundCourse}
use Rattle.rept_order.specs.Events.{Part, Event, IsEvent, FitsRow, first_part, first_event, last_event, IsBefore}
use Rattle.rept_order.specs.Events.Part.{whole, entry, return}
use Rattle.rept_order.specs.Events.IsBefore.{by_row, by_call, by_time}
use Rattle.rept_order.specs.Moments.{Moment, Act}
use Rattle.rept_order.specs.Moments.Moment.{before, after, at_end}
use Rattle.rept_order.specs.Moments.Act.{row}
use Rattle.rept_order.specs.History.{World, Move, move_at, Happening, History, Ending, IsExecution, tick, seen_by, state_at, Stays, Occurs, ExecutesRow, Returns, CallChanges, Does}
use Rattle.rept_order.specs.History.Happening.{event, change, nothing}
use Rattle.rept_order.specs.Points.{moment_of_point, thread_registers}
use Rattle.rept_order.specs.Alone.{SavesOne, RunsAlone, IsShared}
use Rattle.rept_order.proofs.Sequence.{part_of, first_is_event, first_whole, last_whole, first_entry, last_return}
use Rattle.rept_order.proofs.Times.{alone_never, begin_is}

third : (i m : ℕ) → m < 3 → (3 * i + m) / 3 ≡ i
third i m below = omega arith

rest_of : (i m : ℕ) → m < 3 → (3 * i + m) % 3 ≡ m
rest_of i m below = omega arith

call_is : (instr : Instr) (image_end : ℕ) (place : Addresses) (s t : State) → is_call instr ≡ true → HasEffect instr image_end place s t → Calls image_end place s t
call_is Ecall image_end place s t e k = k
call_is _ image_end place s t e k = absurd (false≢true e)

abbrev offset : Part → ℕ
offset whole = 0
offset entry = 0
offset return = 2

first_offset : (b : Bool) → offset (first_part b) ≡ 0
first_offset true = refl
first_offset false = refl

abbrev world_of : State → World
world_of s = record { register = λ t. cond (eqb t 0) s.register (λ r. 0); memory = s.memory }

same_event : {a b : Event} → event a ≡ event b → a ≡ b
same_event e = cc

module _ (C : Course) (run : ℕ → State) where
  abbrev mid : Bool → ℕ → State
  mid true i = run i
  mid false i = run (suc i)

  abbrev late : Bool → ℕ → State
  late true i = record { register = (run i).register; memory = (run (suc i)).memory }
  late false i = run (suc i)

  abbrev state_in : ℕ → ℕ → State
  state_in i zero = run i
  state_in i (suc zero) = mid (calls C (row_of 0 i)) i
  state_in i (suc (suc m)) = late (calls C (row_of 0 i)) i

  abbrev changes : Bool → ℕ → Happening
  changes true i = change (row (row_of 0 i))
  changes false i = nothing

  abbrev returns : Bool → ℕ → Happening
  returns true i = event (part_of (row_of 0 i) return)
  returns false i = nothing

  abbrev happens_in : ℕ → ℕ → Happening
  happens_in i zero = event (first_event C (row_of 0 i))
  happens_in i (suc zero) = changes (calls C (row_of 0 i)) i
  happens_in i (suc (suc m)) = returns (calls C (row_of 0 i)) i

  abbrev history : History
  history = record {
    ticks = 3 * length (rows_of C 0);
    happening = λ k. happens_in (k / 3) (k % 3);
    world = λ k. world_of (state_in (k / 3) (k % 3));
    place = λ e. 3 * e.row.step + offset e.part;
  }

  world_is : (i m : ℕ) → m < 3 → history.world (3 * i + m) ≡ world_of (state_in i m)
  world_is i m below = ap (λ (j : ℕ). world_of (state_in j ((3 * i + m) % 3))) (third i m below) ∙ ap (λ (j : ℕ). world_of (state_in i j)) (rest_of i m below)

  happening_is : (i m : ℕ) → m < 3 → history.happening (3 * i + m) ≡ happens_in i m
  happening_is i m below = ap (λ (j : ℕ). happens_in j ((3 * i + m) % 3)) (third i m below) ∙ ap (λ (j : ℕ). happens_in i j) (rest_of i m below)

  world_at : (k i m : ℕ) → m < 3 → k ≡ 3 * i + m → history.world k ≡ world_of (state_in i m)
  world_at k i m below is = ap (λ (j : ℕ). history.world j) is ∙ world_is i m below

  happening_at : (k i m : ℕ) → m < 3 → k ≡ 3 * i + m → history.happening k ≡ happens_in i m
  happening_at k i m below is = ap (λ (j : ℕ). history.happening j) is ∙ happening_is i m below

module _ (C : Course) (alone : IsAlone C) (D : Ending) (run : ℕ → State) (x : RunsAlone C D run) where
  abbrev n : ℕ
  n = length (rows_of C 0)

  abbrev h : History
  h = history C run

  -- all rows are of thread 0
  own_thread : (r : Row) → IsRow C r → r.thread ≡ 0
  own_thread r is = by_thread r.thread (subst (λ (ts : List ThreadRows). r.step < length (unwrap_or (slice_get ts r.thread) no_thread).steps) alone.only is)
    where
      by_thread : (t : ℕ) → r.step < length (unwrap_or (slice_get (alone.thread ∷ []) t) no_thread).steps → t ≡ 0
      by_thread zero k = refl
      by_thread (suc t) k = absurd (omega arith)

  row_there : (i : ℕ) → i < n → (its_row : StepRow) × (row_at C (row_of 0 i) ≡ Some its_row)
  row_there i below =
      elim ((slice_get_cases (rows_of C 0) i).1) [
        | inl found ↦ (found.0, found.2)
        | inr past ↦ absurd (let p = past.0 in omega arith)
      ]

  call_instr : (i : ℕ) (its_row : StepRow) → row_at C (row_of 0 i) ≡ Some its_row → calls C (row_of 0 i) ≡ true → is_call its_row.instr ≡ true
  call_instr i its_row is call = sym (ap is_call_row is) ∙ call

  -- what happens at the three ticks of a row
  own_others : (t : ℕ) (s u : State) (v r : ℕ) → t ≡ 0 → v ≢ t → (world_of u).register v r ≡ (world_of s).register v r
  own_others t s u v r own other =
      let apart : v ≢ 0 = λ same. other (same ∙ sym own) in
      rw (ne_eqb v 0 apart) refl

  plain_does : (i : ℕ) → i < n → calls C (row_of 0 i) ≡ false → ExecutesRow C D (row_of 0 i) (record { old = world_of (run i); new = world_of (run (suc i)) })
  plain_does i below plain =
      let there = row_there i below in
      let step : IsStep D.image_end there.0 (run i) (run (suc i)) = subst (λ (j : ℕ). IsStep D.image_end there.0 (run i) (run j)) (omega arith) (x.steps i there.0 there.1) in
      record { its_row = there.0; is_row = there.1; step = step; others = λ v r other. own_others 0 (run i) (run (suc i)) v r refl other }

  call_does : (i : ℕ) → i < n → calls C (row_of 0 i) ≡ true → (its_row : StepRow) × (row_at C (row_of 0 i) ≡ Some its_row) × Calls D.image_end (addresses_of its_row) (run i) (run (suc i))
  call_does i below call =
      let there = row_there i below in
      let step : IsStep D.image_end there.0 (run i) (run (suc i)) = subst (λ (j : ℕ). IsStep D.image_end there.0 (run i) (run j)) (omega arith) (x.steps i there.0 there.1) in
      (there.0, there.1, call_is there.0.instr D.image_end (addresses_of there.0) (run i) (run (suc i)) (call_instr i there.0 there.1 call) step)

  same_registers : (s u : State) (t r : ℕ) → s.register ≡ u.register → (world_of s).register t r ≡ (world_of u).register t r
  same_registers s u t r same = ap (λ (f : ℕ → ℕ). cond (eqb t 0) f (λ k. 0) r) same

  call_returns : (i : ℕ) → i < n → calls C (row_of 0 i) ≡ true → Returns C (row_of 0 i) (record { old = world_of (late C run true i); new = world_of (run (suc i)) })
  call_returns i below call =
      let does = call_does i below call in
      record { its_row = does.0; is_row = does.1; onward = does.2.onward; own = λ s other. does.2.others s other; others = λ v r other. own_others 0 (late C run true i) (run (suc i)) v r refl other; memory = λ a. refl }

  first_tick : (i : ℕ) → tick C h (before (row_of 0 i)) ≡ 3 * i + 0
  first_tick i = ap (λ (o : ℕ). 3 * i + o) (first_offset (calls C (row_of 0 i)))

  last_tick_call : (i : ℕ) → calls C (row_of 0 i) ≡ true → tick C h (after (row_of 0 i)) ≡ 3 * suc i + 0
  last_tick_call i call = let place : h.place (last_event C (row_of 0 i)) ≡ 3 * i + 2 = ap h.place (last_return C (row_of 0 i) call) in omega arith

  last_tick_plain : (i : ℕ) → calls C (row_of 0 i) ≡ false → tick C h (after (row_of 0 i)) ≡ 3 * i + 1
  last_tick_plain i plain = let place : h.place (last_event C (row_of 0 i)) ≡ 3 * i + 0 = ap h.place (last_whole C (row_of 0 i) plain) in omega arith

  -- the worlds around a row
  world_first : (i : ℕ) → h.world (tick C h (before (row_of 0 i))) ≡ world_of (run i)
  world_first i = world_at C run (tick C h (before (row_of 0 i))) i 0 (omega arith) (first_tick i)

  world_last_by : (i : ℕ) (b : Bool) → calls C (row_of 0 i) ≡ b → h.world (tick C h (after (row_of 0 i))) ≡ world_of (run (suc i))
  world_last_by i true call = world_at C run (tick C h (after (row_of 0 i))) (suc i) 0 (omega arith) (last_tick_call i call)
  world_last_by i false plain = world_at C run (tick C h (after (row_of 0 i))) i 1 (omega arith) (last_tick_plain i plain) ∙ ap (λ (b : Bool). world_of (mid C run b i)) plain

  world_last : (i : ℕ) → h.world (tick C h (after (row_of 0 i))) ≡ world_of (run (suc i))
  world_last i = world_last_by i (calls C (row_of 0 i)) refl

  moved : (k : ℕ) (old new : World) → h.world k ≡ old → h.world (suc k) ≡ new → move_at h k ≡ record { old = old; new = new }
  moved k old new one other = ap (λ (w : World). record { old = w; new = h.world (suc k) }) one ∙ ap (λ (w : World). record { old = old; new = w }) other

  changes_does : (i k : ℕ) → i < n → calls C (row_of 0 i) ≡ true → k ≡ 3 * i + 1 → CallChanges C D h k (row_of 0 i)
  changes_does i k below call is =
      let does = call_does i below call in
      let old : h.world k ≡ world_of (run i) = world_at C run k i 1 (omega arith) is ∙ ap (λ (b : Bool). world_of (mid C run b i)) call in
      let new : h.world (suc k) ≡ world_of (late C run true i) = world_at C run (suc k) i 2 (omega arith) (omega arith) ∙ ap (λ (b : Bool). world_of (late C run b i)) call in
      record {
        call = call;
        is_row = below;
        entered = let one = first_tick i in omega arith;
        pending = let one = last_tick_call i call in omega arith;
        registers = λ t r. subst (λ (m : Move). m.new.register t r ≡ m.old.register t r) (sym (moved k (world_of (run i)) (world_of (late C run true i)) old new)) refl;
        memory = λ a out. subst (λ (m : Move). m.new.memory a ≡ m.old.memory a) (sym (moved k (world_of (run i)) (world_of (late C run true i)) old new))
            (does.2.memory a (λ may. out (subst (λ (w : World). MayChange D.image_end (seen_by 0 w).register ((state_at C h 0 (after (row_of 0 i))).register 10) a) (sym (world_first i)) (subst (λ (w : World). MayChange D.image_end (run i).register ((seen_by 0 w).register 10) a) (sym (world_last i)) may))));
      }

  Occurs_moved : (r : Row) (p : Part) (k : ℕ) (old new : World) → h.world k ≡ old → h.world (suc k) ≡ new → Occurs C D r (record { old = old; new = new }) p → Occurs C D r (move_at h k) p
  Occurs_moved r p k old new one other does = subst (λ (m : Move). Occurs C D r m p) (sym (moved k old new one other)) does

  first_by : (i k : ℕ) (b : Bool) → i < n → calls C (row_of 0 i) ≡ b → k ≡ 3 * i + 0 → Occurs C D (row_of 0 i) (move_at h k) (first_part b)
  first_by i k true below call is = Occurs_moved (row_of 0 i) entry k (world_of (run i)) (world_of (run i)) (world_at C run k i 0 (omega arith) is) (world_at C run (suc k) i 1 (omega arith) (omega arith) ∙ ap (λ (b : Bool). world_of (mid C run b i)) call) (record { registers = λ t r. refl; memory = λ a. refl })
  first_by i k false below plain is = Occurs_moved (row_of 0 i) whole k (world_of (run i)) (world_of (run (suc i))) (world_at C run k i 0 (omega arith) is) (world_at C run (suc k) i 1 (omega arith) (omega arith) ∙ ap (λ (b : Bool). world_of (mid C run b i)) plain) (plain_does i below plain)

  second_by : (i k : ℕ) (b : Bool) → i < n → calls C (row_of 0 i) ≡ b → k ≡ 3 * i + 1 → Does C D h k (changes C run b i)
  second_by i k true below call is = changes_does i k below call is
  second_by i k false below plain is = subst (λ (m : Move). Stays m) (sym (moved k (world_of (run (suc i))) (world_of (run (suc i))) (world_at C run k i 1 (omega arith) is ∙ ap (λ (b : Bool). world_of (mid C run b i)) plain) (world_at C run (suc k) i 2 (omega arith) (omega arith) ∙ ap (λ (b : Bool). world_of (late C run b i)) plain))) (record { registers = λ t r. refl; memory = λ a. refl })

  third_by : (i k : ℕ) (b : Bool) → i < n → calls C (row_of 0 i) ≡ b → k ≡ 3 * i + 2 → Does C D h k (returns C run b i)
  third_by i k true below call is = Occurs_moved (row_of 0 i) return k (world_of (late C run true i)) (world_of (run (suc i))) (world_at C run k i 2 (omega arith) is ∙ ap (λ (b : Bool). world_of (late C run b i)) call) (world_at C run (suc k) (suc i) 0 (omega arith) (omega arith)) (call_returns i below call)
  third_by i k false below plain is = subst (λ (m : Move). Stays m) (sym (moved k (world_of (run (suc i))) (world_of (run (suc i))) (world_at C run k i 2 (omega arith) is ∙ ap (λ (b : Bool). world_of (late C run b i)) plain) (world_at C run (suc k) (suc i) 0 (omega arith) (omega arith)))) (record { registers = λ t r. refl; memory = λ a. refl })

  does_in : (i m k : ℕ) → i < n → m < 3 → k ≡ 3 * i + m → Does C D h k (happens_in C run i m)
  does_in i zero k below few is = first_by i k (calls C (row_of 0 i)) below refl is
  does_in i (suc zero) k below few is = second_by i k (calls C (row_of 0 i)) below refl is
  does_in i (suc (suc zero)) k below few is = third_by i k (calls C (row_of 0 i)) below refl is
  does_in i (suc (suc (suc m))) k below few is = absurd (omega arith)

  does_at : (k : ℕ) → k < h.ticks → Does C D h k (h.happening k)
  does_at k below =
      let i : ℕ = k / 3 in
      let m : ℕ = k % 3 in
      let is : k ≡ 3 * (k / 3) + k % 3 = omega arith in
      does_in (k / 3) (k % 3) k (omega arith) (omega arith) is

  -- each event has its tick, and no other
  event_is : (e : Event) → IsEvent C e → e ≡ part_of (row_of 0 e.row.step) e.part
  event_is e is = ap (λ (t : ℕ). part_of (row_of t e.row.step) e.part) (own_thread e.row is.row)

  there_by : (i : ℕ) (p : Part) → FitsRow (calls C (row_of 0 i)) p → h.happening (3 * i + offset p) ≡ event (part_of (row_of 0 i) p)
  there_by i whole fits = happening_at C run (3 * i + 0) i 0 (omega arith) refl ∙ ap (λ (e : Event). event e) (first_whole C (row_of 0 i) fits)
  there_by i entry fits = happening_at C run (3 * i + 0) i 0 (omega arith) refl ∙ ap (λ (e : Event). event e) (first_entry C (row_of 0 i) fits)
  there_by i return fits = happening_at C run (3 * i + 2) i 2 (omega arith) refl ∙ ap (λ (b : Bool). returns C run b i) fits

  offset_small : (p : Part) → offset p < 3
  offset_small whole = omega arith
  offset_small entry = omega arith
  offset_small return = omega arith

  own_row : (e : Event) → IsEvent C e → IsEvent C (part_of (row_of 0 e.row.step) e.part)
  own_row e is = subst (λ (f : Event). IsEvent C f) (event_is e is) is

  happens_at : (e : Event) → IsEvent C e → (h.place e < h.ticks) × (h.happening (h.place e) ≡ event e)
  happens_at e is =
      let own = own_row e is in
      let inside : e.row.step < n = own.row in
      let small = offset_small e.part in
      (omega arith, there_by e.row.step e.part own.part ∙ ap (λ (f : Event). event f) (sym (event_is e is)))

  no_event : {a : Act} {e : Event} → change a ≡ event e → ⊥
  no_event k = cc

  nothing_event : {e : Event} → nothing ≡ event e → ⊥
  nothing_event k = cc

  changes_never : (i : ℕ) (b : Bool) (e : Event) → changes C run b i ≡ event e → ⊥
  changes_never i true e k = no_event k
  changes_never i false e k = nothing_event k

  once_first : (i k : ℕ) (e : Event) → i < n → k ≡ 3 * i + 0 → first_event C (row_of 0 i) ≡ e → IsEvent C e × (h.place e ≡ k)
  once_first i k e below is same =
      let place : h.place (first_event C (row_of 0 i)) ≡ k = first_tick i ∙ sym is in
      (subst (λ (f : Event). IsEvent C f) same (first_is_event C (row_of 0 i) below), subst (λ (f : Event). h.place f ≡ k) same place)

  once_third : (i k : ℕ) (e : Event) (b : Bool) → i < n → calls C (row_of 0 i) ≡ b → k ≡ 3 * i + 2 → returns C run b i ≡ event e → IsEvent C e × (h.place e ≡ k)
  once_third i k e true below call is found =
      let same : part_of (row_of 0 i) return ≡ e = same_event found in
      (subst (λ (f : Event). IsEvent C f) same (record { row = below; part = call }), subst (λ (f : Event). h.place f ≡ k) same (sym is))
  once_third i k e false below plain is found = absurd (nothing_event found)

  once_in : (i m k : ℕ) (e : Event) → i < n → m < 3 → k ≡ 3 * i + m → happens_in C run i m ≡ event e → IsEvent C e × (h.place e ≡ k)
  once_in i zero k e below few is found = once_first i k e below is (same_event found)
  once_in i (suc zero) k e below few is found = absurd (changes_never i (calls C (row_of 0 i)) e found)
  once_in i (suc (suc zero)) k e below few is found = once_third i k e (calls C (row_of 0 i)) below refl is found
  once_in i (suc (suc (suc m))) k e below few is found = absurd (omega arith)

  once_at : (k : ℕ) (e : Event) → k < h.ticks → h.happening k ≡ event e → IsEvent C e × (h.place e ≡ k)
  once_at k e below found = once_in (k / 3) (k % 3) k e (omega arith) (omega arith) (omega arith) found

  zero_state : (t : ℕ) (s : State) → t ≢ 0 → IsState s → IsState (seen_by t (world_of s))
  zero_state t s apart is = record {
    zero = ap (λ (b : Bool). cond b s.register (λ r. 0) 0) (ne_eqb t 0 apart);
    words = λ r. let e : (world_of s).register t r ≡ 0 = ap (λ (b : Bool). cond b s.register (λ r. 0) r) (ne_eqb t 0 apart) in rw e (lit< tt);
    bytes = is.bytes;
  }

  world_state : (t : ℕ) (s : State) → IsState s → IsState (seen_by t (world_of s))
  world_state zero s is = is
  world_state (suc t) s is = zero_state (suc t) s (omega arith) is

  mid_state : (i : ℕ) (b : Bool) → i < n → IsState (mid C run b i)
  mid_state i true below = x.states i (omega arith)
  mid_state i false below = x.states (suc i) below

  late_state : (i : ℕ) (b : Bool) → i < n → IsState (late C run b i)
  late_state i true below = let old = x.states i (omega arith) in let new = x.states (suc i) below in record { zero = old.zero; words = old.words; bytes = new.bytes }
  late_state i false below = x.states (suc i) below

  state_is : (i m : ℕ) → 3 * i + m ≤ 3 * n → IsState (state_in C run i m)
  state_is i zero below = x.states i (omega arith)
  state_is i (suc zero) below = mid_state i (calls C (row_of 0 i)) (omega arith)
  state_is i (suc (suc m)) below = late_state i (calls C (row_of 0 i)) (omega arith)

  states_at : (k t : ℕ) → k ≤ h.ticks → IsState (seen_by t (h.world k))
  states_at k t below = world_state t (state_in C run (k / 3) (k % 3)) (state_is (k / 3) (k % 3) (omega arith))

  end_world : h.world h.ticks ≡ world_of (run n)
  end_world = world_at C run (3 * n) n 0 (omega arith) (omega arith)

  module _ (sound : IsSoundCourse C) (saves : SavesOne D) where
    ordered_by : (e f : Event) → IsEvent C e → IsEvent C f → IsBefore C e f → h.place e < h.place f
    ordered_by e f ie jf (by_row same less) = let one = offset_small e.part in let other = offset_small f.part in omega arith
    ordered_by e f ie jf (by_call same first second) =
        let one : offset e.part ≡ 0 = ap offset first in
        let other : offset f.part ≡ 2 = ap offset second in
        let steps : e.row.step ≡ f.row.step = ap (λ (r : Row). r.step) same in
        omega arith
    ordered_by e f ie jf (by_time s u is its less) = absurd (alone_never C sound alone e f jf (record { slice = s; in_slice = is; less = let begin = begin_is C sound f u its in omega arith }))

    none_some : {v : ℕ} → None ≡ Some v → ⊥
    none_some e = cc

    saved_at : (t s v : ℕ) → 0 < s → D.registers t s ≡ Some v → (h.world h.ticks).register t s ≡ v
    saved_at zero s v some is = ap (λ (w : World). w.register 0 s) end_world ∙ x.registers_end s v some is
    saved_at (suc t) s v some is = absurd (none_some (sym (saves (suc t) s (omega arith)) ∙ is))

    is_execution : IsExecution C D h
    is_execution = record {
      happens = happens_at;
      once = once_at;
      ordered = λ e f k. ordered_by e f k.first k.second k.why;
      states = states_at;
      does = does_at;
      registers_end = saved_at;
      bytes_end = λ a v is. ap (λ (w : World). w.memory a) end_world ∙ x.bytes_end a v is;
    }

    shows_registers : (p : ℕ) → p ≤ n → thread_registers C h 0 p ≡ (run p).register
    shows_registers p below =
        elim (cases_lt p n) [
          | inl inside ↦
              let moment : moment_of_point C 0 p ≡ before (row_of 0 p) = rw (Rattle.std.proofs.lemmas.Bool.lt-ltb p n inside) refl in
              ap (λ (m : Moment). (h.world (tick C h m)).register 0) moment ∙ ap (λ (w : World). w.register 0) (world_first p)
          | inr past ↦
              let moment : moment_of_point C 0 p ≡ at_end = rw (Rattle.std.proofs.lemmas.Bool.le-ltb p n past) refl in
              let same : n ≡ p = omega arith in
              ap (λ (m : Moment). (h.world (tick C h m)).register 0) moment ∙ ap (λ (w : World). w.register 0) end_world ∙ ap (λ (k : ℕ). (run k).register) same
        ]

    -- each execution of the rows by themselves is one of the course, with the same states
    pub alone_shared : IsShared C D run
    alone_shared = (
      h,
      is_execution,
      record {
        registers = shows_registers;
        memory_before = λ i inside. ap (λ (w : World). w.memory) (world_first i);
        memory_after = λ i inside. ap (λ (w : World). w.memory) (world_last i);
        memory_end = ap (λ (w : World). w.memory) end_world;
      },
    )
