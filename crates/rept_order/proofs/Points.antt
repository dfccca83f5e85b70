-- What lies at the points of a thread and at the moments of its rows.
use Rattle.std.proofs.Common.{◌≡◌, ◌≢◌, ℕ, zero, suc, ◌+◌, ◌-◌, ◌<◌, ◌≤◌, true, false, length, Option, Some, None, MatchOption, slice_get, inl, inr, refl, sym, ap, ◌∙◌, subst, arith}
use Rattle.std.proofs.Math.Path.{fun_ext}
use Rattle.std.proofs.lemmas.Bool.{false≢true, cases_lt, cases_order, lt-ltb, le-ltb}
use Rattle.rept_isa.specs.declared.instr.Instr.{Instr}
use Rattle.rept_isa.specs.declared.instr.Instr.TheVariants.{Store, Amo, Ecall}
use Rattle.rept_isa.specs.declared.instr.AmoOp.{AmoOp}
use Rattle.rept_isa.specs.declared.instr.AmoOp.TheVariants as atomic
use Rattle.rept_isa.specs.declared.row.StepRow.{StepRow}
use Rattle.rept_isa.specs.Numbers.{following}
use Rattle.rept_isa.specs.Rows.{Addresses, from_of, addresses_of}
use Rattle.rept_isa.specs.Operands.{is_call}
use Rattle.rept_machine.specs.State.{State, IsState}
use Rattle.rept_machine.specs.Step.{IsStep, HasEffect, Calls}
use Rattle.rept_steps.specs.Course.{Course, Row, row_of, rows_of, IsRow, row_at, is_call_row, calls}
use Rattle.rept_order.specs.Events.{Part, Event, FitsRow, first_event, last_event}
use Rattle.rept_order.specs.Events.Part.{whole, entry, return}
use Rattle.rept_order.specs.Events.IsBefore.{by_row}
use Rattle.rept_order.specs.Moments.{Moment, IsMoment, Act, IsAct, Stretch, stretch, MayAct, IsUntouched, may_by, atomic_writes, writes_memory, is_writing, stores, ArePause, AreOne}
use Rattle.rept_order.specs.Moments.Moment.{before, after, at_end}
use Rattle.rept_order.specs.Moments.Act.{row, untraced}
use Rattle.rept_order.specs.Moments.ArePause.{between, last}
use Rattle.rept_order.specs.History.{Happening, History, Ending, IsExecution, tick, seen_by, state_at, Occurs, Does}
use Rattle.rept_order.specs.History.Happening.{event, change, nothing}
use Rattle.rept_machine.specs.Writes.{WritesAtomic}
use Rattle.rept_order.specs.Writing.{WritesBy, Covers}
use Rattle.rept_order.specs.Points.{moment_of_point, thread_registers, memory_at, state_from}
use Rattle.rept_order.proofs.Sequence.{first_is_event, last_is_event, part_of, directly}
use Rattle.rept_order.proofs.Ticks.{order_kept, early}
use Rattle.rept_order.proofs.Keeps.{event_within, whole_ticks, call_ticks}
use Rattle.rept_order.proofs.Quiet.{quiet_stays}

-- stores, calls and atomic instructions are all that writes
atomic_writing : (op : AmoOp) (rd base : ℕ) (after : ℕ → ℕ) (a : ℕ) → WritesAtomic op rd base after a → atomic_writes op ≡ true
atomic_writing atomic.Lr rd base registers a w = absurd w
atomic_writing atomic.Sc rd base registers a w = refl
atomic_writing atomic.Swap rd base registers a w = refl
atomic_writing atomic.Add rd base registers a w = refl
atomic_writing atomic.Xor rd base registers a w = refl
atomic_writing atomic.And rd base registers a w = refl
atomic_writing atomic.Or rd base registers a w = refl
atomic_writing atomic.Min rd base registers a w = refl
atomic_writing atomic.Max rd base registers a w = refl
atomic_writing atomic.Minu rd base registers a w = refl
atomic_writing atomic.Maxu rd base registers a w = refl

pub writes_store : (instr : Instr) (image_end : ℕ) (s t : State) (a : ℕ) → WritesBy instr image_end s t a → writes_memory instr ≡ true
writes_store (Store op rs1 rs2 imm) image_end s t a w = refl
writes_store (Amo op rd rs1 rs2) image_end s t a w = atomic_writing op rd (s.register rs1) t.register a w
writes_store Ecall image_end s t a w = refl
writes_store _ image_end s t a w = absurd w

writes_is : (place : Option StepRow) (image_end : ℕ) (s t : State) (a : ℕ) → MatchOption place ⊥ (λ r. WritesBy r.instr image_end s t a) → is_writing place ≡ true
writes_is None image_end s t a w = absurd w
writes_is (Some its_row) image_end s t a w = writes_store its_row.instr image_end s t a w

pub stores_cover : (C : Course) (D : Ending) (h : History) → Covers C D h (λ r a. stores C r)
stores_cover C D h r a is w = writes_is (row_at C r) D.image_end (state_at C h r.thread (before r)) (state_at C h r.thread (after r)) a w

module _ (C : Course) (D : Ending) (h : History) (x : IsExecution C D h) where
  -- the first moment of a pause lies no later than the second one
  pause_in_order : (s : Stretch) → ArePause C s → IsMoment C s.from × IsMoment C s.to × (tick C h s.from ≤ tick C h s.to) × Rattle.rept_order.specs.Moments.NotLater C s.from s.to
  pause_in_order s (between t i inside is) =
      subst (λ (y : Stretch). IsMoment C y.from × IsMoment C y.to × (tick C h y.from ≤ tick C h y.to) × Rattle.rept_order.specs.Moments.NotLater C y.from y.to) (sym is) (first, inside, order_kept C D h x (after (row_of t i)) (before (row_of t (suc i))) first inside way, way)
    where
      first : IsRow C (row_of t i)
      first = omega arith

      way : Rattle.rept_order.specs.Moments.NotLater C (after (row_of t i)) (before (row_of t (suc i)))
      way = directly C _ _ (record { first = last_is_event C (row_of t i) first; second = first_is_event C (row_of t (suc i)) inside; why = by_row refl (omega arith) })
  pause_in_order s (last t i inside is) =
      subst (λ (y : Stretch). IsMoment C y.from × IsMoment C y.to × (tick C h y.from ≤ tick C h y.to) × Rattle.rept_order.specs.Moments.NotLater C y.from y.to) (sym is) (first, tt, order_kept C D h x (after (row_of t i)) at_end first tt tt, tt)
    where
      first : IsRow C (row_of t i)
      first = omega arith

  -- two moments that are one have one memory
  pub one_memory : (s : Stretch) → AreOne C s → (a : ℕ) → memory_at C h s.to a ≡ memory_at C h s.from a
  one_memory s one a =
      let p = pause_in_order s one.pause in
      quiet_stays C D h x (λ r b. stores C r) (stores_cover C D h) s a p.0 p.1 (record { in_order = p.3; spared = λ act is may_act. still act (one.still act is may_act) })
    where
      still : (act : Act) → may_by (λ r b. stores C r) act 0 ≡ false → may_by (λ r b. stores C r) act a ≡ false
      still (row r) e = e
      still untraced e = e

  -- registers change by events of their thread alone
  register_by : (k t s : ℕ) (g : Happening) → h.happening k ≡ g → Does C D h k g → ((e : Event) → h.happening k ≡ event e → e.row.thread ≡ t → ⊥) → (h.world (suc k)).register t s ≡ (h.world k).register t s
  register_by k t s (event e) is does out = by_part e.part does
    where
      by_part : (p : Part) → Occurs C D e.row (record { old = h.world k; new = h.world (suc k) }) p → (h.world (suc k)).register t s ≡ (h.world k).register t s
      by_part whole d = d.others t s (λ same. out e is (sym same))
      by_part entry d = d.registers t s
      by_part return d = d.others t s (λ same. out e is (sym same))
  register_by k t s (change (row r)) is does out = does.registers t s
  register_by k t s (change untraced) is does out = does.registers t s
  register_by k t s nothing is does out = does.registers t s

  registers_stay : (n k t s : ℕ) → k + n ≤ h.ticks → ((j : ℕ) (e : Event) → k ≤ j → j < k + n → h.happening j ≡ event e → e.row.thread ≡ t → ⊥) → (h.world (k + n)).register t s ≡ (h.world k).register t s
  registers_stay zero k t s bound out = ap (λ (i : ℕ). (h.world i).register t s) none
    where
      none : k + 0 ≡ k
      none = omega arith
  registers_stay (suc n) k t s bound out =
      let below : k < h.ticks = omega arith in
      let here = register_by k t s (h.happening k) refl (x.does k below) (λ e is own. out k e (omega arith) (omega arith) is own) in
      let rest = registers_stay n (suc k) t s (omega arith) (λ j e from to is own. out j e (omega arith) (omega arith) is own) in
      let same : k + suc n ≡ suc k + n = omega arith in
      rw same (rest ∙ here)

  -- an event of the thread at a tick, by the number of its row
  earlier_row : (e : Event) (i k : ℕ) → k < h.ticks → h.happening k ≡ event e → e.row.step ≤ i → IsRow C (row_of e.row.thread i) → k < tick C h (after (row_of e.row.thread i))
  earlier_row e i k below is least inside =
      elim (cases_order e.row.step i) [
        | inl same ↦
            let within = event_within C D h x k e below is in
            let to = within.to in
            let one : tick C h (after e.row) ≡ tick C h (after (row_of e.row.thread i)) = ap (λ (j : ℕ). tick C h (after (row_of e.row.thread j))) same in
            omega arith
        | inr (inl less) ↦
            let own = x.once k e below is in
            let kept = x.ordered e (last_event C (row_of e.row.thread i)) (record { first = own.0; second = last_is_event C (row_of e.row.thread i) inside; why = by_row refl less }) in
            let place = own.1 in
            omega arith
        | inr (inr more) ↦ absurd (omega arith)
      ]

  later_row : (e : Event) (i k : ℕ) → k < h.ticks → h.happening k ≡ event e → i ≤ e.row.step → IsRow C (row_of e.row.thread i) → tick C h (before (row_of e.row.thread i)) ≤ k
  later_row e i k below is most inside =
      elim (cases_order e.row.step i) [
        | inl same ↦
            let within = event_within C D h x k e below is in
            let from = within.from in
            let one : tick C h (before e.row) ≡ tick C h (before (row_of e.row.thread i)) = ap (λ (j : ℕ). tick C h (before (row_of e.row.thread j))) same in
            omega arith
        | inr (inl less) ↦ absurd (omega arith)
        | inr (inr more) ↦
            let own = x.once k e below is in
            let kept = x.ordered (first_event C (row_of e.row.thread i)) e (record { first = first_is_event C (row_of e.row.thread i) inside; second = own.0; why = by_row refl more }) in
            let place = own.1 in
            omega arith
      ]

  module _ (t : ℕ) where
    moment_inside : (p : ℕ) → p < length (rows_of C t) → moment_of_point C t p ≡ before (row_of t p)
    moment_inside p inside = rw (lt-ltb p (length (rows_of C t)) inside) refl

    moment_last : (p : ℕ) → length (rows_of C t) ≤ p → moment_of_point C t p ≡ at_end
    moment_last p past = rw (le-ltb p (length (rows_of C t)) past) refl

    -- from after a row to the thread's next point nothing of the thread happens
    none_between : (i j : ℕ) (e : Event) → i < length (rows_of C t) → j < h.ticks → tick C h (after (row_of t i)) ≤ j → j < tick C h (moment_of_point C t (suc i)) → h.happening j ≡ event e → e.row.thread ≡ t → ⊥
    none_between i j e inside below from to is own =
        elim (cases_lt e.row.step (suc i)) [
          | inl least ↦
              let bound = earlier_row e i j below is (omega arith) (subst (λ (u : ℕ). IsRow C (row_of u i)) (sym own) inside) in
              let same : tick C h (after (row_of e.row.thread i)) ≡ tick C h (after (row_of t i)) = ap (λ (u : ℕ). tick C h (after (row_of u i))) own in
              absurd (omega arith)
          | inr most ↦
              let its : IsRow C e.row = (event_within C D h x j e below is).is_row in
              let count : length (rows_of C e.row.thread) ≡ length (rows_of C t) = ap (λ (u : ℕ). length (rows_of C u)) own in
              let next : suc i < length (rows_of C t) = omega arith in
              let bound = later_row e (suc i) j below is most (subst (λ (u : ℕ). IsRow C (row_of u (suc i))) (sym own) next) in
              let same : tick C h (before (row_of e.row.thread (suc i))) ≡ tick C h (before (row_of t (suc i))) = ap (λ (u : ℕ). tick C h (before (row_of u (suc i)))) own in
              let point : tick C h (moment_of_point C t (suc i)) ≡ tick C h (before (row_of t (suc i))) = ap (tick C h) (moment_inside (suc i) next) in
              absurd (omega arith)
        ]

    point_is_moment : (p : ℕ) → IsMoment C (moment_of_point C t p)
    point_is_moment p =
        elim (cases_lt p (length (rows_of C t))) [
          | inl inside ↦ rw (moment_inside p inside) inside
          | inr past ↦ rw (moment_last p past) tt
        ]

    after_no_later : (i : ℕ) → i < length (rows_of C t) → tick C h (after (row_of t i)) ≤ tick C h (moment_of_point C t (suc i))
    after_no_later i inside =
        elim (cases_lt (suc i) (length (rows_of C t))) [
          | inl next ↦ let p = pause_in_order (stretch (after (row_of t i)) (before (row_of t (suc i)))) (between t i next refl) in rw (moment_inside (suc i) next) p.2
          | inr past ↦ let p = pause_in_order (stretch (after (row_of t i)) at_end) (last t i (omega arith) refl) in rw (moment_last (suc i) past) p.2
        ]

    -- after a row the thread has the registers of its next point
    pub registers_after : (i : ℕ) → i < length (rows_of C t) → thread_registers C h t (suc i) ≡ (h.world (tick C h (after (row_of t i)))).register t
    registers_after i inside = fun_ext each
      where
        each : (s : ℕ) → thread_registers C h t (suc i) s ≡ (h.world (tick C h (after (row_of t i)))).register t s
        each s =
            let order = after_no_later i inside in
            let bound = early C D h x (moment_of_point C t (suc i)) (point_is_moment (suc i)) in
            let far : tick C h (after (row_of t i)) + (tick C h (moment_of_point C t (suc i)) - tick C h (after (row_of t i))) ≡ tick C h (moment_of_point C t (suc i)) = omega arith in
            ap (λ (k : ℕ). (h.world k).register t s) (sym far) ∙ registers_stay (tick C h (moment_of_point C t (suc i)) - tick C h (after (row_of t i))) (tick C h (after (row_of t i))) t s (omega arith) (λ j e from to is own. none_between i j e inside (omega arith) from (omega arith) is own)

    pub registers_before : (i : ℕ) → i < length (rows_of C t) → thread_registers C h t i ≡ (h.world (tick C h (before (row_of t i)))).register t
    registers_before i inside = ap (λ (m : Moment). (h.world (tick C h m)).register t) (moment_inside i inside)

same_row : {a b : StepRow} → Some a ≡ Some b → a ≡ b
same_row e = cc

call_effect : (instr : Instr) (image_end : ℕ) (place : Addresses) (s t : State) → is_call instr ≡ true → Calls image_end place s t → HasEffect instr image_end place s t
call_effect Ecall image_end place s t e k = k
call_effect _ image_end place s t e k = absurd (false≢true e)

module _ (C : Course) (D : Ending) (h : History) (x : IsExecution C D h) (t i : ℕ) (inside : i < length (rows_of C t)) where
  happens_at : (p : Part) → FitsRow (calls C (row_of t i)) p → (h.place (part_of (row_of t i) p) < h.ticks) × Occurs C D (row_of t i) (record { old = h.world (h.place (part_of (row_of t i) p)); new = h.world (suc (h.place (part_of (row_of t i) p))) }) p
  happens_at p fits =
      let there = x.happens (part_of (row_of t i) p) (record { row = inside; part = fits }) in
      (there.0, subst (λ (g : Happening). Does C D h (h.place (part_of (row_of t i) p)) g) there.1 (x.does (h.place (part_of (row_of t i) p)) there.0))

  -- a row that is no call is a step from the registers of its point and the memory before it
  pub plain_step : (its_row : StepRow) → row_at C (row_of t i) ≡ Some its_row → calls C (row_of t i) ≡ false → IsStep D.image_end its_row (state_from (thread_registers C h t i) (memory_at C h (before (row_of t i)))) (state_from (thread_registers C h t (suc i)) (memory_at C h (after (row_of t i))))
  plain_step its_row is plain =
      let does = (happens_at whole plain).1 in
      let ticks = whole_ticks C D h x (row_of t i) (h.place (part_of (row_of t i) whole)) plain refl in
      let its = subst (λ (r : StepRow). IsStep D.image_end r (seen_by t (h.world (h.place (part_of (row_of t i) whole)))) (seen_by t (h.world (suc (h.place (part_of (row_of t i) whole)))))) (same_row (sym does.is_row ∙ is)) does.step in
      let from = subst (λ (j : ℕ). IsStep D.image_end its_row (seen_by t (h.world j)) (seen_by t (h.world (suc (h.place (part_of (row_of t i) whole)))))) (sym ticks.0) its in
      let to = subst (λ (j : ℕ). IsStep D.image_end its_row (state_at C h t (before (row_of t i))) (seen_by t (h.world j))) (sym ticks.1) from in
      let old = subst (λ (f : ℕ → ℕ). IsStep D.image_end its_row (state_from f (memory_at C h (before (row_of t i)))) (state_at C h t (after (row_of t i)))) (sym (registers_before C D h x t i inside)) to in
      subst (λ (f : ℕ → ℕ). IsStep D.image_end its_row (state_from (thread_registers C h t i) (memory_at C h (before (row_of t i)))) (state_from f (memory_at C h (after (row_of t i))))) (sym (registers_after C D h x t i inside)) old

  -- nothing of the thread happens between a call's entry and its return
  none_pending : calls C (row_of t i) ≡ true → (j : ℕ) (e : Event) → j < h.ticks → suc (h.place (part_of (row_of t i) entry)) ≤ j → j < h.place (part_of (row_of t i) return) → h.happening j ≡ event e → e.row.thread ≡ t → ⊥
  none_pending call j e below from to is own =
      let its = x.once j e below is in
      let place = its.1 in
      elim (cases_order e.row.step i) [
        | inl same ↦ by_part e.part its.0.part its.1 (same_name e.row own same)
        | inr (inl less) ↦
            let kept = x.ordered e (part_of (row_of t i) entry) (record { first = its.0; second = record { row = inside; part = call }; why = by_row own less }) in
            absurd (omega arith)
        | inr (inr more) ↦
            let kept = x.ordered (part_of (row_of t i) return) e (record { first = record { row = inside; part = call }; second = its.0; why = by_row (sym own) more }) in
            absurd (omega arith)
      ]
    where
      same_name : (r : Row) → r.thread ≡ t → r.step ≡ i → r ≡ row_of t i
      same_name r one other = subst (λ (u : ℕ). r ≡ row_of u i) one (ap (λ (k : ℕ). row_of r.thread k) other)

      by_part : (p : Part) → FitsRow (calls C e.row) p → h.place (part_of e.row p) ≡ j → e.row ≡ row_of t i → ⊥
      by_part whole fits place same = false≢true (sym fits ∙ ap (calls C) same ∙ call)
      by_part entry fits place same = let one : h.place (part_of e.row entry) ≡ h.place (part_of (row_of t i) entry) = ap (λ (r : Row). h.place (part_of r entry)) same in absurd (omega arith)
      by_part return fits place same = let one : h.place (part_of e.row return) ≡ h.place (part_of (row_of t i) return) = ap (λ (r : Row). h.place (part_of r return)) same in absurd (omega arith)

  call_keeps : (s : ℕ) → s ≢ 10 → calls C (row_of t i) ≡ true → (h.world (tick C h (after (row_of t i)))).register t s ≡ (h.world (tick C h (before (row_of t i)))).register t s
  call_keeps s other call =
      let ticks = call_ticks C D h x (row_of t i) inside call in
      let less = ticks.2 in
      let entered = (happens_at entry call).1 in
      let returned = happens_at return call in
      let bound = returned.0 in
      let far : suc (h.place (part_of (row_of t i) entry)) + (h.place (part_of (row_of t i) return) - suc (h.place (part_of (row_of t i) entry))) ≡ h.place (part_of (row_of t i) return) = omega arith in
      let waits = registers_stay C D h x (h.place (part_of (row_of t i) return) - suc (h.place (part_of (row_of t i) entry))) (suc (h.place (part_of (row_of t i) entry))) t s (omega arith) (λ j e from to is own. none_pending call j e (omega arith) from (omega arith) is own) in
      ap (λ (k : ℕ). (h.world k).register t s) ticks.1 ∙ returned.1.own s other ∙ ap (λ (k : ℕ). (h.world k).register t s) (sym far) ∙ waits ∙ entered.registers t s ∙ ap (λ (k : ℕ). (h.world k).register t s) (sym ticks.0)

  -- a call changes x10 alone of its thread's registers, and goes on behind itself: it is a step
  -- with any memory, the same before and after
  pub call_step : (its_row : StepRow) (memory : ℕ → ℕ) → row_at C (row_of t i) ≡ Some its_row → calls C (row_of t i) ≡ true → IsStep D.image_end its_row (state_from (thread_registers C h t i) memory) (state_from (thread_registers C h t (suc i)) memory)
  call_step its_row memory is call =
      let returned = (happens_at return call).1 in
      let its = same_row (sym returned.is_row ∙ is) in
      let onward = subst (λ (r : StepRow). r.next ≡ following (from_of r)) its returned.onward in
      call_effect its_row.instr D.image_end (addresses_of its_row) (state_from (thread_registers C h t i) memory) (state_from (thread_registers C h t (suc i)) memory) (subst (λ (o : Option StepRow). is_call_row o ≡ true) is call) (record {
        others = λ s other. ap (λ (f : ℕ → ℕ). f s) (registers_after C D h x t i inside) ∙ call_keeps s other call ∙ ap (λ (f : ℕ → ℕ). f s) (sym (registers_before C D h x t i inside));
        memory = λ a out. refl;
        onward = onward;
      })

module _ (C : Course) (D : Ending) (h : History) (x : IsExecution C D h) where
  -- the last point of a thread has what was saved of its registers, the end what was saved of the
  -- memory
  pub registers_saved : (t s v : ℕ) → 0 < s → D.registers t s ≡ Some v → thread_registers C h t (length (rows_of C t)) s ≡ v
  registers_saved t s v some is = ap (λ (m : Moment). (h.world (tick C h m)).register t s) (moment_last C D h x t (length (rows_of C t)) (omega arith)) ∙ x.registers_end t s v some is

  -- each point of a thread has registers of a state, each moment a memory of bytes
  pub point_state : (t p : ℕ) (m : Moment) → IsMoment C m → IsState (state_from (thread_registers C h t p) (memory_at C h m))
  point_state t p m is =
      let registers = x.states (tick C h (moment_of_point C t p)) t (early C D h x (moment_of_point C t p) (point_is_moment C D h x t p)) in
      let bytes = x.states (tick C h m) t (early C D h x m is) in
      record { zero = registers.zero; words = registers.words; bytes = bytes.bytes }
