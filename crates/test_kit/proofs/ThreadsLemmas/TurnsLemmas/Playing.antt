-- A play is an execution. Four ticks belong to each row: at the first the call returns that the
-- thread's last row was, at the second the row is executed or a call is entered, at the third a
-- call changes memory, and at the fourth a call returns after which its thread has no row. So a
-- call that a row follows returns as that row's turn begins; until then its thread has the
-- registers that it had at the call.
use Rattle.std.proofs.Common.{◌≡◌, ◌≢◌, ℕ, zero, suc, ◌+◌, ◌*◌, ◌/◌, ◌%◌, ◌^◌, ◌<◌, ◌≤◌, eqb, cond, nat_lt, Bool, true, false, not, ◌&&◌, List, Option, Some, None, inl, inr, refl, sym, ap, ◌∙◌, subst, arith}
use Rattle.std.proofs.lemmas.Bool.{false≢true, cases_Bool, cases_eq, cases_lt, eq-eqb, ne_eqb, lt-ltb, le-ltb, and_parts, and_from, and_left, and_right, not_from_false}
use mathlib.Core.Path.{fun_ext}
use Rattle.rept_isa.specs.declared.instr.Instr.{Instr}
use Rattle.rept_isa.specs.declared.instr.Instr.TheVariants.{Ecall}
use Rattle.rept_isa.specs.declared.row.StepRow.{StepRow}
use Rattle.rept_isa.specs.Rows.{Addresses, addresses_of}
use Rattle.rept_isa.specs.Operands.{is_call}
use Rattle.rept_machine.specs.Calls.{MayChange}
use Rattle.rept_machine.specs.State.{State, IsState}
use Rattle.rept_machine.specs.Step.{IsStep, HasEffect, Calls}
use Rattle.rept_steps.specs.declared.slice.Slice.{Slice}
use Rattle.rept_steps.specs.Course.{Course, Row, row_of, slices_of, slice_of, slice_after, IsRow, row_at, is_call_row, calls, CallsEnd}
use Rattle.rept_order.specs.Events.{Part, Event, IsEvent, FitsRow, first_part, last_part, first_event, event_slice, slice_by, IsBefore}
use Rattle.rept_order.specs.Events.Part.{whole, entry, return}
use Rattle.rept_order.specs.Events.IsBefore.{by_row, by_call, by_time}
use Rattle.rept_order.specs.Moments.{Act}
use Rattle.rept_order.specs.Moments.Moment.{before, after}
use Rattle.rept_order.specs.Moments.Act.{row}
use Rattle.rept_order.specs.History.{World, Move, move_at, Happening, History, Ending, IsExecution, tick, seen_by, Stays, OthersKeep, KeepsMemory, Occurs, ExecutesRow, Returns, CallChanges, Does}
use Rattle.rept_order.specs.History.Happening.{event, change, nothing}
use Rattle.rept_order.proofs.Sequence.{part_of, first_is_event, first_whole, first_entry}
use Rattle.test_kit.specs.declared.threads.turns.turn.Turn.{Turn}
use Rattle.test_kit.specs.Threads.Turns.Turns.{all_rows, rows_in, steps_before, turn_at, slices_from, HasTurns, AreSome, AreInOrder}
use Rattle.test_kit.specs.Threads.Turns.Play.{Playing, IsPlay, IsPlayExecuted}
use Rattle.test_kit.proofs.ThreadsLemmas.TurnsLemmas.Places.{place_in, place_most, stands, steps_there, counted, turn_there, steps_own, steps_other, steps_mono, place_strict, place_end, steps_all}
use Rattle.test_kit.proofs.ThreadsLemmas.TurnsLemmas.Slices.{InTurn, in_turn, slice_next, in_order}

fourth : (i m : ℕ) → m < 4 → (4 * i + m) / 4 ≡ i
fourth i m below = omega arith

rest_of : (i m : ℕ) → m < 4 → (4 * i + m) % 4 ≡ m
rest_of i m below = omega arith

call_is : (instr : Instr) (image_end : ℕ) (place : Addresses) (s t : State) → is_call instr ≡ true → HasEffect instr image_end place s t → Calls image_end place s t
call_is Ecall image_end place s t e k = k
call_is _ image_end place s t e k = absurd (false≢true e)

same_event : {a b : Event} → event a ≡ event b → a ≡ b
same_event e = cc

no_event : {a : Act} {e : Event} → change a ≡ event e → ⊥
no_event k = cc

nothing_event : {e : Event} → nothing ≡ event e → ⊥
nothing_event k = cc

none_slice : {a : Slice} → None ≡ Some a → ⊥
none_slice e = cc

abbrev thread_of : Option Turn → ℕ
thread_of None = 0
thread_of (Some turn) = turn.thread

module _ (C : Course) (D : Ending) (x : Playing) (has : HasTurns C x.turns) (play : IsPlay C D x) where
  abbrev turns : List Turn
  turns = x.turns

  abbrev count : ℕ
  count = all_rows x.turns

  abbrev world : ℕ → World
  world = x.world

  -- the thread of row k of all, how many of its rows came before, and the row
  abbrev who : ℕ → ℕ
  who k = thread_of (turn_at turns k)

  abbrev now : ℕ → ℕ
  now k = steps_before (who k) turns k

  abbrev row_on : ℕ → Row
  row_on k = row_of (who k) (now k)

  -- whether another row of its thread follows the row, and whether it is a call that waits for it
  abbrev follows : Row → Bool
  follows r = nat_lt (suc r.step) (rows_in r.thread turns)

  abbrev waits : Row → Bool
  waits r = calls C r && follows r

  -- the point of a thread that has so many rows behind it, where its last call waits
  abbrev held : ℕ → ℕ → ℕ
  held u zero = zero
  held u (suc i) = cond (waits (row_of u i)) i (suc i)

  -- the point of each thread at tick m of row k
  abbrev done : ℕ → ℕ → ℕ → ℕ
  done k zero u = held u (steps_before u turns k)
  done k (suc zero) u = cond (eqb u (who k)) (now k) (held u (steps_before u turns k))
  done k (suc (suc m)) u = cond (eqb u (who k)) (cond (calls C (row_on k)) (now k) (suc (now k))) (held u (steps_before u turns k))

  -- a thread's registers at one of its points
  abbrev registers : ℕ → ℕ → (ℕ → ℕ)
  registers u p = (world (place_in u turns p)).register u

  abbrev bytes : ℕ → ℕ → (ℕ → ℕ)
  bytes k zero = (world k).memory
  bytes k (suc zero) = (world k).memory
  bytes k (suc (suc zero)) = cond (calls C (row_on k)) (world k).memory (world (suc k)).memory
  bytes k (suc (suc (suc m))) = (world (suc k)).memory

  abbrev world_in : ℕ → ℕ → World
  world_in k m = record { register = λ u. registers u (done k m u); memory = bytes k m }

  abbrev back : ℕ → ℕ → Happening
  back u zero = nothing
  back u (suc i) = cond (waits (row_of u i)) (event (part_of (row_of u i) return)) nothing

  abbrev happens_in : ℕ → ℕ → Happening
  happens_in k zero = back (who k) (now k)
  happens_in k (suc zero) = event (first_event C (row_on k))
  happens_in k (suc (suc zero)) = cond (calls C (row_on k)) (change (row (row_on k))) nothing
  happens_in k (suc (suc (suc m))) = cond (calls C (row_on k) && not (follows (row_on k))) (event (part_of (row_on k) return)) nothing

  abbrev place_by : Row → Part → ℕ
  place_by r whole = 4 * place_in r.thread turns r.step + 1
  place_by r entry = 4 * place_in r.thread turns r.step + 1
  place_by r return = cond (follows r) (4 * place_in r.thread turns (suc r.step)) (4 * place_in r.thread turns r.step + 3)

  abbrev h : History
  h = record {
    ticks = 4 * count;
    happening = λ k. happens_in (k / 4) (k % 4);
    world = λ k. world_in (k / 4) (k % 4);
    place = λ e. place_by e.row e.part;
  }

  world_is : (τ k m : ℕ) → m < 4 → τ ≡ 4 * k + m → h.world τ ≡ world_in k m
  world_is τ k m below is = ap (λ (j : ℕ). h.world j) is ∙ ap (λ (j : ℕ). world_in j ((4 * k + m) % 4)) (fourth k m below) ∙ ap (λ (j : ℕ). world_in k j) (rest_of k m below)

  happening_is : (τ k m : ℕ) → m < 4 → τ ≡ 4 * k + m → h.happening τ ≡ happens_in k m
  happening_is τ k m below is = ap (λ (j : ℕ). h.happening j) is ∙ ap (λ (j : ℕ). happens_in j ((4 * k + m) % 4)) (fourth k m below) ∙ ap (λ (j : ℕ). happens_in k j) (rest_of k m below)

  abbrev move_in : ℕ → ℕ → Move
  move_in k zero = record { old = world_in k 0; new = world_in k 1 }
  move_in k (suc zero) = record { old = world_in k 1; new = world_in k 2 }
  move_in k (suc (suc zero)) = record { old = world_in k 2; new = world_in k 3 }
  move_in k (suc (suc (suc m))) = record { old = world_in k 3; new = world_in (suc k) 0 }

  moved : (τ : ℕ) (old new : World) → h.world τ ≡ old → h.world (suc τ) ≡ new → move_at h τ ≡ record { old = old; new = new }
  moved τ old new one other = ap (λ (w : World). record { old = w; new = h.world (suc τ) }) one ∙ ap (λ (w : World). record { old = old; new = w }) other

  move_is : (τ k m : ℕ) → m < 4 → τ ≡ 4 * k + m → move_at h τ ≡ move_in k m
  move_is τ k zero below is = moved τ _ _ (world_is τ k 0 (omega arith) is) (world_is (suc τ) k 1 (omega arith) (omega arith))
  move_is τ k (suc zero) below is = moved τ _ _ (world_is τ k 1 (omega arith) is) (world_is (suc τ) k 2 (omega arith) (omega arith))
  move_is τ k (suc (suc zero)) below is = moved τ _ _ (world_is τ k 2 (omega arith) is) (world_is (suc τ) k 3 (omega arith) (omega arith))
  move_is τ k (suc (suc (suc zero))) below is = moved τ _ _ (world_is τ k 3 (omega arith) is) (world_is (suc τ) (suc k) 0 (omega arith) (omega arith))
  move_is τ k (suc (suc (suc (suc m)))) below is = absurd (omega arith)

  -- row k of all
  few : (k : ℕ) → k < count → now k < rows_in (who k) turns
  few k below = let at = turn_there turns k below in subst (λ (t : ℕ). steps_before t turns k < rows_in t turns) (sym (ap thread_of at.1)) (counted turns k at.0 at.1).few

  placed : (k : ℕ) → k < count → place_in (who k) turns (now k) ≡ k
  placed k below = let at = turn_there turns k below in subst (λ (t : ℕ). place_in t turns (steps_before t turns k) ≡ k) (sym (ap thread_of at.1)) (counted turns k at.0 at.1).place

  is_row : (u i : ℕ) → i < rows_in u turns → IsRow C (row_of u i)
  is_row u i less = let rows = has.rows u in omega arith

  in_turns : (r : Row) → IsRow C r → r.step < rows_in r.thread turns
  in_turns r is = let rows = has.rows r.thread in omega arith

  -- the row of a thread, by its place among all
  inside : (u i : ℕ) → i < rows_in u turns → place_in u turns i < count
  inside u i less = (stands u turns i less).inside

  who_there : (u i : ℕ) → i < rows_in u turns → who (place_in u turns i) ≡ u
  who_there u i less = let own = stands u turns i less in ap thread_of own.at ∙ own.own

  now_there : (u i : ℕ) → i < rows_in u turns → now (place_in u turns i) ≡ i
  now_there u i less = ap (λ (t : ℕ). steps_before t turns (place_in u turns i)) (who_there u i less) ∙ steps_there u turns i (omega arith)

  row_there : (u i : ℕ) → i < rows_in u turns → row_on (place_in u turns i) ≡ row_of u i
  row_there u i less = ap (λ (t : ℕ). row_of t (now (place_in u turns i))) (who_there u i less) ∙ ap (λ (j : ℕ). row_of u j) (now_there u i less)

  next_own : (k : ℕ) → k < count → steps_before (who k) turns (suc k) ≡ suc (now k)
  next_own k below = let at = turn_there turns k below in steps_own (who k) turns k at.0 at.1 (sym (ap thread_of at.1))

  next_other : (k u : ℕ) → k < count → u ≢ who k → steps_before u turns (suc k) ≡ steps_before u turns k
  next_other k u below other = let at = turn_there turns k below in steps_other u turns k at.0 at.1 (λ same. other (sym same ∙ sym (ap thread_of at.1)))

  -- a thread's registers stay while it has no row
  quiet : (u k l : ℕ) → k ≤ l → l ≤ count → steps_before u turns l ≡ steps_before u turns k → (s : ℕ) → (world l).register u s ≡ (world k).register u s
  quiet u k zero least most same s = ap (λ (j : ℕ). (world j).register u s) (omega arith)
  quiet u k (suc l) least most same s =
      elim (cases_eq k (suc l)) [
        | inl is ↦ ap (λ (j : ℕ). (world j).register u s) (sym is)
        | inr apart ↦
            let at = turn_there turns l (omega arith) in
            let mono = steps_mono u turns k l (omega arith) in
            elim (cases_eq at.0.thread u) [
              | inl own ↦ let more = steps_own u turns l at.0 at.1 own in absurd (omega arith)
              | inr other ↦
                  let stay = steps_other u turns l at.0 at.1 other in
                  (play.executes l at.0 at.1).others u s (λ same. other (sym same)) ∙ quiet u k l (omega arith) (omega arith) (omega arith) s
            ]
      ]

  registers_next : (u i : ℕ) → i < rows_in u turns → registers u (suc i) ≡ (world (suc (place_in u turns i))).register u
  registers_next u i less =
      let own = stands u turns i less in
      let strict = place_strict u turns i (suc i) (omega arith) (omega arith) in
      let one = steps_own u turns (place_in u turns i) own.turn own.at own.own in
      let two = steps_there u turns i (omega arith) in
      let three = steps_there u turns (suc i) (omega arith) in
      fun_ext (λ s. quiet u (suc (place_in u turns i)) (place_in u turns (suc i)) (omega arith) (place_most u turns (suc i)) (omega arith) s)

  -- what a row does between two points of its thread, and to the memory
  abbrev state_old : ℕ → ℕ → State
  state_old u i = record { register = registers u i; memory = (world (place_in u turns i)).memory }

  abbrev state_new : ℕ → ℕ → State
  state_new u i = record { register = registers u (suc i); memory = (world (suc (place_in u turns i))).memory }

  record Ran (u i : ℕ) : Type 0 where
    pub its_row : StepRow
    pub is_row : row_at C (row_of u i) ≡ Some its_row
    pub step : IsStep D.image_end its_row (state_old u i) (state_new u i)

  ran : (u i : ℕ) → i < rows_in u turns → Ran u i
  ran u i less =
      let own = stands u turns i less in
      let p = place_in u turns i in
      let by_thread : ExecutesRow C D (row_of u (steps_before u turns (place_in u turns i))) (record { old = world (place_in u turns i); new = world (suc (place_in u turns i)) }) = subst (λ (t : ℕ). ExecutesRow C D (row_of t (steps_before t turns (place_in u turns i))) (record { old = world (place_in u turns i); new = world (suc (place_in u turns i)) })) own.own (play.executes (place_in u turns i) own.turn own.at) in
      let does : ExecutesRow C D (row_of u i) (record { old = world (place_in u turns i); new = world (suc (place_in u turns i)) }) = subst (λ (j : ℕ). ExecutesRow C D (row_of u j) (record { old = world (place_in u turns i); new = world (suc (place_in u turns i)) })) (steps_there u turns i (omega arith)) by_thread in
      record {
        its_row = does.its_row;
        is_row = does.is_row;
        step = subst (λ (f : ℕ → ℕ). IsStep D.image_end does.its_row (state_old u i) (record { register = f; memory = (world (suc (place_in u turns i))).memory })) (sym (registers_next u i less)) does.step;
      }

  call_ran : (u i : ℕ) → calls C (row_of u i) ≡ true → (own : Ran u i) → Calls D.image_end (addresses_of own.its_row) (state_old u i) (state_new u i)
  call_ran u i call own = call_is own.its_row.instr D.image_end (addresses_of own.its_row) (state_old u i) (state_new u i) (sym (ap is_call_row own.is_row) ∙ call) own.step

  returns : (u i : ℕ) (m : Move) → i < rows_in u turns → calls C (row_of u i) ≡ true → m.old.register u ≡ registers u i → m.new.register u ≡ registers u (suc i) → OthersKeep u m → KeepsMemory m → Returns C (row_of u i) m
  returns u i m less call old new others memory =
      let own = ran u i less in
      let does = call_ran u i call own in
      record {
        its_row = own.its_row;
        is_row = own.is_row;
        onward = does.onward;
        own = λ s other. ap (λ (f : ℕ → ℕ). f s) new ∙ does.others s other ∙ sym (ap (λ (f : ℕ → ℕ). f s) old);
        others = others;
        memory = memory;
      }

  -- the points of the threads around the ticks of row k
  own_first : (k : ℕ) → done k 1 (who k) ≡ now k
  own_first k = rw (eq-eqb (who k) (who k) refl) refl

  own_second : (k : ℕ) → done k 2 (who k) ≡ cond (calls C (row_on k)) (now k) (suc (now k))
  own_second k = rw (eq-eqb (who k) (who k) refl) refl

  other_first : (k u : ℕ) → u ≢ who k → done k 1 u ≡ done k 0 u
  other_first k u other = rw (ne_eqb u (who k) other) refl

  other_second : (k u : ℕ) → u ≢ who k → done k 2 u ≡ done k 0 u
  other_second k u other = rw (ne_eqb u (who k) other) refl

  own_next : (k : ℕ) → k < count → done (suc k) 0 (who k) ≡ cond (waits (row_on k)) (now k) (suc (now k))
  own_next k below = ap (λ (n : ℕ). held (who k) n) (next_own k below)

  other_next : (k u : ℕ) → k < count → u ≢ who k → done (suc k) 0 u ≡ done k 0 u
  other_next k u below other = ap (λ (n : ℕ). held u n) (next_other k u below other)

  each : (k : ℕ) (P : ℕ → Type 0) → P (who k) → ((u : ℕ) → u ≢ who k → P u) → (u : ℕ) → P u
  each k P own others u =
      elim (cases_eq u (who k)) [
        | inl same ↦ subst P (sym same) own
        | inr other ↦ others u other
      ]

  same_at : (u p q s : ℕ) → p ≡ q → registers u p s ≡ registers u q s
  same_at u p q s same = ap (λ (n : ℕ). registers u n s) same

  back_at : (u i : ℕ) → waits (row_of u i) ≡ true → back u (suc i) ≡ event (part_of (row_of u i) return)
  back_at u i both = ap (λ (b : Bool). cond b (event (part_of (row_of u i) return)) nothing) both

  held_waits : (u i : ℕ) → waits (row_of u i) ≡ true → held u (suc i) ≡ i
  held_waits u i both = ap (λ (b : Bool). cond b i (suc i)) both

  held_goes : (u i : ℕ) → waits (row_of u i) ≡ false → held u (suc i) ≡ suc i
  held_goes u i not_both = ap (λ (b : Bool). cond b i (suc i)) not_both

  -- the first tick
  stays_first : (k : ℕ) → held (who k) (now k) ≡ now k → Stays (move_in k 0)
  stays_first k same = record {
    registers = λ u s. same_at u (done k 1 u) (done k 0 u) s (each k (λ v. done k 1 v ≡ done k 0 v) (own_first k ∙ sym same) (λ v other. other_first k v other) u);
    memory = λ a. refl;
  }

  first_by : (k n : ℕ) → k < count → now k ≡ n → Does C D h (4 * k) (back (who k) n)
  first_by k zero below is = subst Stays (sym (move_is (4 * k) k 0 (omega arith) (omega arith))) (stays_first k (ap (λ (n : ℕ). held (who k) n) is ∙ sym is))
  first_by k (suc i) below is =
      elim (cases_Bool (waits (row_of (who k) i))) [
        | inl both ↦
            let less = few k below in
            let point : done k 0 (who k) ≡ i = ap (λ (n : ℕ). held (who k) n) is ∙ held_waits (who k) i both in
            let does : Returns C (row_of (who k) i) (move_in k 0) = returns (who k) i (move_in k 0) (omega arith) (and_parts (calls C (row_of (who k) i)) (follows (row_of (who k) i)) both).0
            (ap (λ (p : ℕ). registers (who k) p) point) (ap (λ (p : ℕ). registers (who k) p) (own_first k ∙ is))
            (λ u s other. same_at u (done k 1 u) (done k 0 u) s (other_first k u other)) (λ a. refl) in
            subst (λ (b : Happening). Does C D h (4 * k) b) (sym (back_at (who k) i both)) (subst (λ (m : Move). Returns C (row_of (who k) i) m) (sym (move_is (4 * k) k 0 (omega arith) (omega arith))) does)
        | inr not_both ↦
            let stays = stays_first k (ap (λ (n : ℕ). held (who k) n) is ∙ held_goes (who k) i not_both ∙ sym is) in
            let quiet_tick : back (who k) (suc i) ≡ nothing = ap (λ (b : Bool). cond b (event (part_of (row_of (who k) i) return)) nothing) not_both in
            subst (λ (b : Happening). Does C D h (4 * k) b) (sym quiet_tick) (subst Stays (sym (move_is (4 * k) k 0 (omega arith) (omega arith))) stays)
      ]

  -- the second tick
  enters : (k : ℕ) → calls C (row_on k) ≡ true → Stays (move_in k 1)
  enters k call = record {
    registers = λ u s. same_at u (done k 2 u) (done k 1 u) s (each k (λ v. done k 2 v ≡ done k 1 v) (own_second k ∙ ap (λ (b : Bool). cond b (now k) (suc (now k))) call ∙ sym (own_first k)) (λ v other. other_second k v other ∙ sym (other_first k v other)) u);
    memory = λ a. ap (λ (b : Bool). cond b (world k).memory (world (suc k)).memory a) call;
  }

  runs : (k : ℕ) → k < count → calls C (row_on k) ≡ false → ExecutesRow C D (row_on k) (move_in k 1)
  runs k below plain =
      let own = ran (who k) (now k) (few k below) in
      let place = placed k below in
      let old : state_old (who k) (now k) ≡ seen_by (who k) (world_in k 1) =
      ap (λ (p : ℕ). record { register = registers (who k) (now k); memory = (world p).memory }) place
      ∙ ap (λ (p : ℕ). record { register = registers (who k) p; memory = (world k).memory }) (sym (own_first k)) in
      let second : done k 2 (who k) ≡ suc (now k) = own_second k ∙ ap (λ (b : Bool). cond b (now k) (suc (now k))) plain in
      let bytes_new : bytes k 2 ≡ (world (suc k)).memory = ap (λ (b : Bool). cond b (world k).memory (world (suc k)).memory) plain in
      let new : state_new (who k) (now k) ≡ seen_by (who k) (world_in k 2) =
      ap (λ (p : ℕ). record { register = registers (who k) (suc (now k)); memory = (world (suc p)).memory }) place
      ∙ ap (λ (p : ℕ). record { register = registers (who k) p; memory = (world (suc k)).memory }) (sym second)
      ∙ ap (λ (f : ℕ → ℕ). record { register = registers (who k) (done k 2 (who k)); memory = f }) (sym bytes_new) in
      record {
        its_row = own.its_row;
        is_row = own.is_row;
        step = subst (λ (t : State). IsStep D.image_end own.its_row (seen_by (who k) (world_in k 1)) t) new (subst (λ (s : State). IsStep D.image_end own.its_row s (state_new (who k) (now k))) old own.step);
        others = λ u s other. same_at u (done k 2 u) (done k 1 u) s (other_second k u other ∙ sym (other_first k u other));
      }

  second_by : (k : ℕ) (b : Bool) → k < count → calls C (row_on k) ≡ b → Occurs C D (row_on k) (move_in k 1) (first_part b)
  second_by k true below call = enters k call
  second_by k false below plain = runs k below plain

  -- the places of a row's events
  first_place : (r : Row) (b : Bool) → place_by r (first_part b) ≡ 4 * place_in r.thread turns r.step + 1
  first_place r true = refl
  first_place r false = refl

  return_late : (u i : ℕ) → i < rows_in u turns → 4 * place_in u turns i + 3 ≤ place_by (row_of u i) return
  return_late u i less =
      elim (cases_lt (suc i) (rows_in u turns)) [
        | inl more ↦ let strict = place_strict u turns i (suc i) (omega arith) (omega arith) in rw (lt-ltb (suc i) (rows_in u turns) more) (omega arith)
        | inr none ↦ rw (le-ltb (suc i) (rows_in u turns) none) (omega arith)
      ]

  -- after its return a call's thread is at the next point
  after_call : (u i : ℕ) → i < rows_in u turns → calls C (row_of u i) ≡ true → (h.world (suc (place_by (row_of u i) return))).register u ≡ registers u (suc i)
  after_call u i less call =
      elim (cases_lt (suc i) (rows_in u turns)) [
        | inl more ↦
            let p : ℕ = place_in u turns (suc i) in
            let place : place_by (row_of u i) return ≡ 4 * place_in u turns (suc i) = ap (λ (b : Bool). cond b (4 * place_in u turns (suc i)) (4 * place_in u turns i + 3)) (lt-ltb (suc i) (rows_in u turns) more) in
            let its_world : h.world (suc (place_by (row_of u i) return)) ≡ world_in (place_in u turns (suc i)) 1 = world_is _ (place_in u turns (suc i)) 1 (omega arith) (omega arith) in
            let point : done (place_in u turns (suc i)) 1 u ≡ suc i = subst (λ (v : ℕ). done (place_in u turns (suc i)) 1 v ≡ suc i) (who_there u (suc i) more) (own_first (place_in u turns (suc i)) ∙ now_there u (suc i) more) in
            ap (λ (w : World). w.register u) its_world ∙ ap (λ (q : ℕ). registers u q) point
        | inr none ↦
            let place : place_by (row_of u i) return ≡ 4 * place_in u turns i + 3 = ap (λ (b : Bool). cond b (4 * place_in u turns (suc i)) (4 * place_in u turns i + 3)) (le-ltb (suc i) (rows_in u turns) none) in
            let its_world : h.world (suc (place_by (row_of u i) return)) ≡ world_in (suc (place_in u turns i)) 0 = world_is _ (suc (place_in u turns i)) 0 (omega arith) (omega arith) in
            let own = stands u turns i less in
            let steps : steps_before u turns (suc (place_in u turns i)) ≡ suc i = steps_own u turns (place_in u turns i) own.turn own.at own.own ∙ ap suc (steps_there u turns i (omega arith)) in
            let goes : waits (row_of u i) ≡ false = and_right (calls C (row_of u i)) (follows (row_of u i)) (le-ltb (suc i) (rows_in u turns) none) in
            let point : done (suc (place_in u turns i)) 0 u ≡ suc i = ap (λ (n : ℕ). held u n) steps ∙ held_goes u i goes in
            ap (λ (w : World). w.register u) its_world ∙ ap (λ (q : ℕ). registers u q) point
      ]

  -- the third tick
  changes : (k τ : ℕ) → k < count → τ ≡ 4 * k + 2 → calls C (row_on k) ≡ true → CallChanges C D h τ (row_on k)
  changes k τ below is call =
      let own = ran (who k) (now k) (few k below) in
      let does = call_ran (who k) (now k) call own in
      let place = placed k below in
      let first_tick : tick C h (before (row_on k)) ≡ 4 * k + 1 = first_place (row_on k) (calls C (row_on k)) ∙ (omega arith) in
      let last_tick : tick C h (after (row_on k)) ≡ suc (place_by (row_on k) return) = ap (λ (b : Bool). suc (place_by (row_on k) (last_part b))) call in
      let late = return_late (who k) (now k) (few k below) in
      let entered : (h.world (tick C h (before (row_on k)))).register (who k) ≡ registers (who k) (now k) = ap (λ (w : World). w.register (who k)) (world_is _ k 1 (omega arith) first_tick) ∙ ap (λ (p : ℕ). registers (who k) p) (own_first k) in
      let left : (h.world (tick C h (after (row_on k)))).register (who k) ≡ registers (who k) (suc (now k)) = ap (λ (τ' : ℕ). (h.world τ').register (who k)) last_tick ∙ after_call (who k) (now k) (few k below) call in
      let moves = move_is τ k 2 (omega arith) is in
      record {
        call = call;
        is_row = is_row (who k) (now k) (few k below);
        entered = omega arith;
        pending = omega arith;
        registers = λ u s. subst (λ (m : Move). m.new.register u s ≡ m.old.register u s) (sym moves) refl;
        memory = λ a out. subst (λ (m : Move). m.new.memory a ≡ m.old.memory a) (sym moves)
            (let stay : (world (suc (place_in (who k) turns (now k)))).memory a ≡ (world (place_in (who k) turns (now k))).memory a = does.memory a (λ may. out (subst (λ (f : ℕ → ℕ). MayChange D.image_end f ((h.world (tick C h (after (row_on k)))).register (who k) 10) a) (sym entered) (subst (λ (f : ℕ → ℕ). MayChange D.image_end (registers (who k) (now k)) (f 10) a) (sym left) may))) in
            subst (λ (p : ℕ). (world (suc p)).memory a ≡ (world p).memory a) place stay ∙ sym (ap (λ (b : Bool). cond b (world k).memory (world (suc k)).memory a) call));
      }

  third_by : (k τ : ℕ) (b : Bool) → k < count → τ ≡ 4 * k + 2 → calls C (row_on k) ≡ b → Does C D h τ (cond b (change (row (row_on k))) nothing)
  third_by k τ true below is call = changes k τ below is call
  third_by k τ false below is plain = subst Stays (sym (move_is τ k 2 (omega arith) is)) (record { registers = λ u s. refl; memory = λ a. sym (ap (λ (b : Bool). cond b (world k).memory (world (suc k)).memory a) plain) })

  -- the fourth tick
  last_stays : (k : ℕ) → k < count → cond (waits (row_on k)) (now k) (suc (now k)) ≡ cond (calls C (row_on k)) (now k) (suc (now k)) → Stays (move_in k 3)
  last_stays k below same = record {
    registers = λ u s. same_at u (done (suc k) 0 u) (done k 2 u) s (each k (λ v. done (suc k) 0 v ≡ done k 2 v) (own_next k below ∙ same ∙ sym (own_second k)) (λ v other. other_next k v below other ∙ sym (other_second k v other)) u);
    memory = λ a. refl;
  }

  last_returns : (k : ℕ) → k < count → calls C (row_on k) ≡ true → follows (row_on k) ≡ false → Returns C (row_on k) (move_in k 3)
  last_returns k below call none =
      let old : done k 2 (who k) ≡ now k = own_second k ∙ ap (λ (b : Bool). cond b (now k) (suc (now k))) call in
      let goes : waits (row_on k) ≡ false = and_right (calls C (row_on k)) (follows (row_on k)) none in
      let new : done (suc k) 0 (who k) ≡ suc (now k) = own_next k below ∙ ap (λ (b : Bool). cond b (now k) (suc (now k))) goes in
      returns (who k) (now k) (move_in k 3) (few k below) call (ap (λ (p : ℕ). registers (who k) p) old) (ap (λ (p : ℕ). registers (who k) p) new)
      (λ u s other. same_at u (done (suc k) 0 u) (done k 2 u) s (other_next k u below other ∙ sym (other_second k u other))) (λ a. refl)

  fourth_by : (k τ : ℕ) (b f : Bool) → k < count → τ ≡ 4 * k + 3 → calls C (row_on k) ≡ b → follows (row_on k) ≡ f → Does C D h τ (cond (b && not f) (event (part_of (row_on k) return)) nothing)
  fourth_by k τ true false below is call none = subst (λ (m : Move). Returns C (row_on k) m) (sym (move_is τ k 3 (omega arith) is)) (last_returns k below call none)
  fourth_by k τ true true below is call more = subst Stays (sym (move_is τ k 3 (omega arith) is)) (last_stays k below (ap (λ (b : Bool). cond b (now k) (suc (now k))) (and_from (calls C (row_on k)) (follows (row_on k)) call more ∙ sym call)))
  fourth_by k τ false f below is plain way = subst Stays (sym (move_is τ k 3 (omega arith) is)) (last_stays k below (ap (λ (b : Bool). cond b (now k) (suc (now k))) (and_left (calls C (row_on k)) (follows (row_on k)) plain ∙ sym plain)))

  does_in : (k m τ : ℕ) → k < count → m < 4 → τ ≡ 4 * k + m → Does C D h τ (happens_in k m)
  does_in k zero τ below small is = subst (λ (j : ℕ). Does C D h j (back (who k) (now k))) (omega arith) (first_by k (now k) below refl)
  does_in k (suc zero) τ below small is = subst (λ (m : Move). Occurs C D (row_on k) m (first_part (calls C (row_on k)))) (sym (move_is τ k 1 (omega arith) is)) (second_by k (calls C (row_on k)) below refl)
  does_in k (suc (suc zero)) τ below small is = third_by k τ (calls C (row_on k)) below is refl
  does_in k (suc (suc (suc zero))) τ below small is = fourth_by k τ (calls C (row_on k)) (follows (row_on k)) below is refl refl
  does_in k (suc (suc (suc (suc m)))) τ below small is = absurd (omega arith)

  does_at : (τ : ℕ) → τ < h.ticks → Does C D h τ (h.happening τ)
  does_at τ below = does_in (τ / 4) (τ % 4) τ (omega arith) (omega arith) (omega arith)

  -- each event has its tick
  happens_first : (r : Row) → IsRow C r → (h.place (first_event C r) < h.ticks) × (h.happening (h.place (first_event C r)) ≡ event (first_event C r))
  happens_first r is =
      let less = in_turns r is in
      let below = inside r.thread r.step less in
      let place = first_place r (calls C r) in
      (omega arith, happening_is _ (place_in r.thread turns r.step) 1 (omega arith) place ∙ ap (λ (q : Row). event (first_event C q)) (row_there r.thread r.step less))

  happens_return : (r : Row) → IsRow C r → calls C r ≡ true → (place_by r return < h.ticks) × (h.happening (place_by r return) ≡ event (part_of r return))
  happens_return r is call =
      let less = in_turns r is in
      elim (cases_lt (suc r.step) (rows_in r.thread turns)) [
        | inl more ↦
            let both = lt-ltb (suc r.step) (rows_in r.thread turns) more in
            let place : place_by r return ≡ 4 * place_in r.thread turns (suc r.step) = ap (λ (b : Bool). cond b (4 * place_in r.thread turns (suc r.step)) (4 * place_in r.thread turns r.step + 3)) both in
            let below = inside r.thread (suc r.step) more in (
              omega arith,
              happening_is _ (place_in r.thread turns (suc r.step)) 0 (omega arith) (omega arith)
                  ∙ ap (λ (t : ℕ). back t (now (place_in r.thread turns (suc r.step)))) (who_there r.thread (suc r.step) more)
                  ∙ ap (λ (n : ℕ). back r.thread n) (now_there r.thread (suc r.step) more)
                  ∙ back_at r.thread r.step (and_from (calls C r) (follows r) call both),
            )
        | inr none ↦
            let not_both = le-ltb (suc r.step) (rows_in r.thread turns) none in
            let place : place_by r return ≡ 4 * place_in r.thread turns r.step + 3 = ap (λ (b : Bool). cond b (4 * place_in r.thread turns (suc r.step)) (4 * place_in r.thread turns r.step + 3)) not_both in
            let below = inside r.thread r.step less in (
              omega arith,
              happening_is _ (place_in r.thread turns r.step) 3 (omega arith) place
                  ∙ ap (λ (q : Row). cond (calls C q && not (follows q)) (event (part_of q return)) nothing) (row_there r.thread r.step less)
                  ∙ ap (λ (b : Bool). cond b (event (part_of r return)) nothing) (and_from (calls C r) (not (follows r)) call (not_from_false (follows r) not_both)),
            )
      ]

  happens_by : (r : Row) (p : Part) → IsRow C r → FitsRow (calls C r) p → (place_by r p < h.ticks) × (h.happening (place_by r p) ≡ event (part_of r p))
  happens_by r whole is fits = subst (λ (e : Event). (h.place e < h.ticks) × (h.happening (h.place e) ≡ event e)) (first_whole C r fits) (happens_first r is)
  happens_by r entry is fits = subst (λ (e : Event). (h.place e < h.ticks) × (h.happening (h.place e) ≡ event e)) (first_entry C r fits) (happens_first r is)
  happens_by r return is fits = happens_return r is fits

  -- and no other
  abbrev Once : ℕ → Event → Type 0
  Once τ e = IsEvent C e × (h.place e ≡ τ)

  once_back : (k n : ℕ) (e : Event) → k < count → now k ≡ n → back (who k) n ≡ event e → Once (4 * k) e
  once_back k zero e below is found = absurd (nothing_event found)
  once_back k (suc i) e below is found =
      elim (cases_Bool (waits (row_of (who k) i))) [
        | inl both ↦
            let same : part_of (row_of (who k) i) return ≡ e = same_event (sym (back_at (who k) i both) ∙ found) in
            let parts = and_parts (calls C (row_of (who k) i)) (follows (row_of (who k) i)) both in
            let less = few k below in
            let own : place_in (who k) turns (suc i) ≡ k = ap (place_in (who k) turns) (sym is) ∙ placed k below in
            let place : place_by (row_of (who k) i) return ≡ 4 * place_in (who k) turns (suc i) = ap (λ (b : Bool). cond b (4 * place_in (who k) turns (suc i)) (4 * place_in (who k) turns i + 3)) parts.1 in
            subst (λ (f : Event). Once (4 * k) f) same (record { row = is_row (who k) i (omega arith); part = parts.0 }, place ∙ ap (λ (j : ℕ). 4 * j) own)
        | inr not_both ↦ absurd (nothing_event (sym (ap (λ (b : Bool). cond b (event (part_of (row_of (who k) i) return)) nothing) not_both) ∙ found))
      ]

  once_changes : (b : Bool) (a : Act) (e : Event) → cond b (change a) nothing ≡ event e → ⊥
  once_changes true a e found = no_event found
  once_changes false a e found = nothing_event found

  once_last : (k τ : ℕ) (b f : Bool) (e : Event) → k < count → τ ≡ 4 * k + 3 → calls C (row_on k) ≡ b → follows (row_on k) ≡ f → cond (b && not f) (event (part_of (row_on k) return)) nothing ≡ event e → Once τ e
  once_last k τ true false e below is call none found =
      let own = placed k below in
      let place : place_by (row_on k) return ≡ 4 * place_in (who k) turns (now k) + 3 = ap (λ (b : Bool). cond b (4 * place_in (who k) turns (suc (now k))) (4 * place_in (who k) turns (now k) + 3)) none in
      subst (λ (f : Event). Once τ f) (same_event found) (record { row = is_row (who k) (now k) (few k below); part = call }, place ∙ (omega arith))
  once_last k τ true true e below is call more found = absurd (nothing_event found)
  once_last k τ false f e below is plain way found = absurd (nothing_event found)

  once_in : (k m τ : ℕ) (e : Event) → k < count → m < 4 → τ ≡ 4 * k + m → happens_in k m ≡ event e → Once τ e
  once_in k zero τ e below small is found = subst (λ (j : ℕ). Once j e) (omega arith) (once_back k (now k) e below refl found)
  once_in k (suc zero) τ e below small is found =
      let own = placed k below in
      let place = first_place (row_on k) (calls C (row_on k)) in
      subst (λ (f : Event). Once τ f) (same_event found) (first_is_event C (row_on k) (is_row (who k) (now k) (few k below)), place ∙ (omega arith))
  once_in k (suc (suc zero)) τ e below small is found = absurd (once_changes (calls C (row_on k)) (row (row_on k)) e found)
  once_in k (suc (suc (suc zero))) τ e below small is found = once_last k τ (calls C (row_on k)) (follows (row_on k)) e below is refl refl found
  once_in k (suc (suc (suc (suc m)))) τ e below small is found = absurd (omega arith)

  once_at : (τ : ℕ) (e : Event) → τ < h.ticks → h.happening τ ≡ event e → Once τ e
  once_at τ e below found = once_in (τ / 4) (τ % 4) τ e (omega arith) (omega arith) (omega arith) found

  -- states, and the last world
  bytes_small : (k m a : ℕ) → 4 * k + m ≤ 4 * count → bytes k m a < 2 ^ 8
  bytes_small k zero a most = (play.states k 0 (omega arith)).bytes a
  bytes_small k (suc zero) a most = (play.states k 0 (omega arith)).bytes a
  bytes_small k (suc (suc zero)) a most =
      elim (cases_Bool (calls C (row_on k))) [
        | inl call ↦ subst (λ (b : Bool). cond b (world k).memory (world (suc k)).memory a < 2 ^ 8) (sym call) ((play.states k 0 (omega arith)).bytes a)
        | inr plain ↦ subst (λ (b : Bool). cond b (world k).memory (world (suc k)).memory a < 2 ^ 8) (sym plain) ((play.states (suc k) 0 (omega arith)).bytes a)
      ]
  bytes_small k (suc (suc (suc m))) a most = (play.states (suc k) 0 (omega arith)).bytes a

  states_at : (τ t : ℕ) → τ ≤ h.ticks → IsState (seen_by t (h.world τ))
  states_at τ t most =
      let own = play.states (place_in t turns (done (τ / 4) (τ % 4) t)) t (place_most t turns (done (τ / 4) (τ % 4) t)) in
      record { zero = own.zero; words = own.words; bytes = λ a. bytes_small (τ / 4) (τ % 4) a (omega arith) }

  last_point : (u n : ℕ) → n ≡ rows_in u turns → held u n ≡ n
  last_point u zero is = refl
  last_point u (suc i) is = held_goes u i (and_right (calls C (row_of u i)) (follows (row_of u i)) (le-ltb (suc i) (rows_in u turns) (omega arith)))

  last_registers : (u : ℕ) → (h.world h.ticks).register u ≡ (world count).register u
  last_registers u =
      ap (λ (w : World). w.register u) (world_is (4 * count) count 0 (omega arith) (omega arith))
      ∙ ap (λ (p : ℕ). registers u p) (last_point u (steps_before u turns count) (steps_all u turns) ∙ steps_all u turns)
      ∙ ap (λ (k : ℕ). (world k).register u) (place_end u turns)

  first_registers : (u s : ℕ) → (h.world 0).register u s ≡ (world 0).register u s
  first_registers u s =
      let there = steps_there u turns 0 (omega arith) in
      let mono = steps_mono u turns 0 (place_in u turns 0) (omega arith) in
      let none : steps_before u turns 0 ≡ 0 = omega arith in
      ap (λ (w : World). w.register u s) (world_is 0 0 0 (omega arith) (omega arith))
      ∙ ap (λ (n : ℕ). registers u (held u n) s) none
      ∙ quiet u 0 (place_in u turns 0) (omega arith) (place_most u turns 0) (omega arith) s

  first_memory : (h.world 0).memory ≡ (world 0).memory
  first_memory = ap (λ (w : World). w.memory) (world_is 0 0 0 (omega arith) (omega arith))

  last_memory : (h.world h.ticks).memory ≡ (world count).memory
  last_memory = ap (λ (w : World). w.memory) (world_is (4 * count) count 0 (omega arith) (omega arith))

  module _ (some : AreSome x.turns) (order : AreInOrder x.turns) (ends : CallsEnd C) where
    least_place : (r : Row) (p : Part) → IsRow C r → 4 * place_in r.thread turns r.step + 1 ≤ place_by r p
    least_place r whole is = omega arith
    least_place r entry is = omega arith
    least_place r return is = let late = return_late r.thread r.step (in_turns r is) in omega arith

    most_place : (r : Row) (p : Part) → suc r.step < rows_in r.thread turns → place_by r p ≤ 4 * place_in r.thread turns (suc r.step)
    most_place r whole more = let strict = place_strict r.thread turns r.step (suc r.step) (omega arith) (omega arith) in omega arith
    most_place r entry more = let strict = place_strict r.thread turns r.step (suc r.step) (omega arith) (omega arith) in omega arith
    most_place r return more = rw (lt-ltb (suc r.step) (rows_in r.thread turns) more) (omega arith)

    within_thread : (e f : Event) → IsEvent C e → IsEvent C f → e.row.thread ≡ f.row.thread → e.row.step < f.row.step → h.place e < h.place f
    within_thread e f is its own less =
        let last : f.row.step < rows_in e.row.thread turns = subst (λ (t : ℕ). f.row.step < rows_in t turns) (sym own) (in_turns f.row its.row) in
        let one = most_place e.row e.part (omega arith) in
        let two : 4 * place_in e.row.thread turns f.row.step + 1 ≤ place_by f.row f.part = subst (λ (t : ℕ). 4 * place_in t turns f.row.step + 1 ≤ place_by f.row f.part) (sym own) (least_place f.row f.part its.row) in
        elim (cases_eq (suc e.row.step) f.row.step) [
          | inl next ↦ let three : place_in e.row.thread turns (suc e.row.step) ≡ place_in e.row.thread turns f.row.step = ap (place_in e.row.thread turns) next in omega arith
          | inr later ↦ let three = place_strict e.row.thread turns (suc e.row.step) f.row.step (omega arith) (omega arith) in omega arith
        ]

    -- the turn in whose time an event happens
    record InTime (e : Event) (s : Slice) : Type 0 where
      pub spot : ℕ
      pub turn : Turn
      pub at : turn_at turns spot ≡ Some turn
      pub begin : turn.begin ≡ s.begin
      pub end : turn.end ≡ s.end
      pub least : 4 * spot ≤ h.place e
      pub most : h.place e ≤ 4 * spot + 1

    in_time_first : (r : Row) (s : Slice) → slice_of (slices_of C r.thread) r.step ≡ Some s → InTurn r.thread turns r.step s
    in_time_first r s found = in_turn r.thread 0 turns r.step s (ap (slice_of (slices_from r.thread 0 turns)) (omega arith) ∙ subst (λ (ss : List Slice). slice_of ss r.step ≡ Some s) (has.slices r.thread) found)

    in_time_return : (r : Row) (s : Slice) → calls C r ≡ true → slice_after (slices_of C r.thread) r.step ≡ Some s → InTurn r.thread turns (suc r.step) s
    in_time_return r s call found =
        let listed : slice_after (slices_from r.thread 0 turns) r.step ≡ Some s = subst (λ (ss : List Slice). slice_after ss r.step ≡ Some s) (has.slices r.thread) found in
        let last : (v : Slice) → slice_of (slices_from r.thread 0 turns) r.step ≡ Some v → v.first + v.count ≡ suc r.step = λ v its. ends r v call (subst (λ (ss : List Slice). slice_of ss r.step ≡ Some v) (sym (has.slices r.thread)) its) in
        in_turn r.thread 0 turns (suc r.step) s (ap (slice_of (slices_from r.thread 0 turns)) (omega arith) ∙ sym (slice_next r.thread 0 turns r.step some last) ∙ listed)

    in_time_by : (r : Row) (p : Part) (s : Slice) → FitsRow (calls C r) p → slice_by p (slices_of C r.thread) r.step ≡ Some s → InTime (part_of r p) s
    in_time_by r whole s fits found = let own = in_time_first r s found in record { spot = place_in r.thread turns r.step; turn = own.turn; at = own.at; begin = own.begin; end = own.end; least = omega arith; most = omega arith }
    in_time_by r entry s fits found = let own = in_time_first r s found in record { spot = place_in r.thread turns r.step; turn = own.turn; at = own.at; begin = own.begin; end = own.end; least = omega arith; most = omega arith }
    in_time_by r return s fits found =
        let own = in_time_return r s fits found in
        let place : place_by r return ≡ 4 * place_in r.thread turns (suc r.step) = ap (λ (b : Bool). cond b (4 * place_in r.thread turns (suc r.step)) (4 * place_in r.thread turns r.step + 3)) (lt-ltb (suc r.step) (rows_in r.thread turns) own.few) in
        record { spot = place_in r.thread turns (suc r.step); turn = own.turn; at = own.at; begin = own.begin; end = own.end; least = omega arith; most = omega arith }

    by_times : (e f : Event) (s u : Slice) → IsEvent C e → IsEvent C f → event_slice C e ≡ Some s → event_slice C f ≡ Some u → s.end < u.begin → h.place e < h.place f
    by_times e f s u is its one other less =
        let early = in_time_by e.row e.part s is.part one in
        let late = in_time_by f.row f.part u its.part other in
        let end = early.end in
        let begin = late.begin in
        let strict = in_order turns early.spot late.spot early.turn late.turn order early.at late.at (omega arith) in
        let most = early.most in
        let least = late.least in
        omega arith

    call_order : (e f : Event) → IsEvent C e → e.row ≡ f.row → e.part ≡ entry → f.part ≡ return → h.place e < h.place f
    call_order e f is own first second =
        let one : h.place e ≡ 4 * place_in e.row.thread turns e.row.step + 1 = ap (place_by e.row) first in
        let two : h.place f ≡ place_by e.row return = ap (λ (r : Row). place_by r f.part) (sym own) ∙ ap (place_by e.row) second in
        let late = return_late e.row.thread e.row.step (in_turns e.row is.row) in
        omega arith

    ordered_by : (e f : Event) → IsEvent C e → IsEvent C f → IsBefore C e f → h.place e < h.place f
    ordered_by e f is its (by_row own less) = within_thread e f is its own less
    ordered_by e f is its (by_call own first second) = call_order e f is own first second
    ordered_by e f is its (by_time s u one other less) = by_times e f s u is its one other less

    execution : IsExecution C D h
    execution = record {
      happens = λ e is. happens_by e.row e.part is.row is.part;
      once = once_at;
      ordered = λ e f before. ordered_by e f before.first before.second before.why;
      states = states_at;
      does = does_at;
      registers_end = λ t s v few saved. ap (λ (f : ℕ → ℕ). f s) (last_registers t) ∙ play.registers_end t s v few saved;
      bytes_end = λ a v saved. ap (λ (f : ℕ → ℕ). f a) last_memory ∙ play.bytes_end a v saved;
    }

    pub play_executed : IsPlayExecuted C D x
    play_executed = record {
      history = h;
      execution = execution;
      first = record { registers = first_registers; memory = λ a. ap (λ (f : ℕ → ℕ). f a) first_memory };
      last = record { registers = λ t s. ap (λ (f : ℕ → ℕ). f s) (last_registers t); memory = λ a. ap (λ (f : ℕ → ℕ). f a) last_memory };
    }
