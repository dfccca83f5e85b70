-- What a tick leaves as it was: each byte that whoever acts at it may not write.
use Rattle.std.proofs.Common.{◌≡◌, ℕ, suc, ◌<◌, ◌≤◌, true, false, Option, Some, None, MatchOption, refl, sym, ap, ◌∙◌, subst, arith}
use Rattle.std.proofs.lemmas.Bool.{false≢true}
use Rattle.rept_isa.specs.declared.instr.Instr.{Instr}
use Rattle.rept_isa.specs.declared.instr.Instr.TheVariants.{Ecall}
use Rattle.rept_isa.specs.declared.row.StepRow.{StepRow}
use Rattle.rept_isa.specs.Rows.{Addresses, addresses_of}
use Rattle.rept_isa.specs.Operands.{is_call}
use Rattle.rept_machine.specs.Calls.{MayChange}
use Rattle.rept_machine.specs.State.{State}
use Rattle.rept_machine.proofs.StepLaws.{effect_keeps_byte}
use Rattle.rept_steps.specs.Course.{Course, Row, IsRow, row_at, is_call_row, calls}
use Rattle.rept_order.specs.Events.{Part, Event, FitsRow, first_event, last_event, Before, UntracedPrecedes}
use Rattle.rept_order.specs.Events.Part.{whole, entry, return}
use Rattle.rept_order.specs.Events.IsBefore.{by_call}
use Rattle.rept_order.specs.Moments.{Moment, IsMoment, Act, IsAct, UntracedBefore, WhollyBefore, WhollyAfter}
use Rattle.rept_order.specs.Moments.Moment.{before, after, at_end}
use Rattle.rept_order.specs.Moments.Act.{row, untraced}
use Rattle.rept_order.specs.History.{Happening, History, Ending, IsExecution, tick, seen_by, state_at, Occurs, ExecutesRow, UntracedChanges, Does}
use Rattle.rept_order.specs.History.Happening.{event, change, nothing}
use Rattle.rept_order.specs.Writing.{WritesBy, RowWrites, ActWrites, By}
use Rattle.rept_order.proofs.Sequence.{part_of, first_whole, last_whole, first_entry, last_return}
use Rattle.rept_order.proofs.Ticks.{order_kept, or_kept}

call_writes_by : (instr : Instr) (image_end : ℕ) (s t : State) (a : ℕ) → is_call instr ≡ true → MayChange image_end s.register (t.register 10) a → WritesBy instr image_end s t a
call_writes_by Ecall image_end s t a e k = k
call_writes_by _ image_end s t a e k = absurd (false≢true e)

call_writes : (place : Option StepRow) (image_end : ℕ) (s t : State) (a : ℕ) → is_call_row place ≡ true → MayChange image_end s.register (t.register 10) a → MatchOption place ⊥ (λ r. WritesBy r.instr image_end s t a)
call_writes None image_end s t a e k = absurd (false≢true e)
call_writes (Some its_row) image_end s t a e k = call_writes_by its_row.instr image_end s t a e k

match_some : (place : Option StepRow) (its_row : StepRow) (P : StepRow → Type 0) → place ≡ Some its_row → P its_row → MatchOption place ⊥ P
match_some place its_row P e p = subst (λ (o : Option StepRow). MatchOption o ⊥ P) (sym e) p

module _ (C : Course) (D : Ending) (h : History) (x : IsExecution C D h) where
  pub whole_ticks : (r : Row) (k : ℕ) → calls C r ≡ false → h.place (part_of r whole) ≡ k → (tick C h (before r) ≡ k) × (tick C h (after r) ≡ suc k)
  whole_ticks r k f place = (ap h.place (first_whole C r f) ∙ place, ap suc (ap h.place (last_whole C r f) ∙ place))

  -- a call is entered before it returns
  pub call_ticks : (r : Row) → IsRow C r → calls C r ≡ true → (tick C h (before r) ≡ h.place (part_of r entry)) × (tick C h (after r) ≡ suc (h.place (part_of r return))) × (h.place (part_of r entry) < h.place (part_of r return))
  call_ticks r is f =
      let call : Before C (part_of r entry) (part_of r return) = record { first = record { row = is; part = f }; second = record { row = is; part = f }; why = by_call refl refl refl } in
      (ap h.place (first_entry C r f), ap suc (ap h.place (last_return C r f)), x.ordered (part_of r entry) (part_of r return) call)

  part_span : (r : Row) (p : Part) → IsRow C r → FitsRow (calls C r) p → (tick C h (before r) ≤ h.place (part_of r p)) × (h.place (part_of r p) < tick C h (after r))
  part_span r whole is f = let ticks = whole_ticks r (h.place (part_of r whole)) f refl in let one = ticks.0 in let other = ticks.1 in (omega arith, omega arith)
  part_span r entry is f = let ticks = call_ticks r is f in let one = ticks.0 in let other = ticks.1 in let less = ticks.2 in (omega arith, omega arith)
  part_span r return is f = let ticks = call_ticks r is f in let one = ticks.0 in let other = ticks.1 in let less = ticks.2 in (omega arith, omega arith)

  -- a row acts within its own interval
  pub record IsWithin (r : Row) (k : ℕ) : Type 0 where
    pub is_row : IsRow C r
    pub from : tick C h (before r) ≤ k
    pub to : k < tick C h (after r)

  pub event_within : (k : ℕ) (e : Event) → k < h.ticks → h.happening k ≡ event e → IsWithin e.row k
  event_within k e below is =
      let own = x.once k e below is in
      let span = part_span e.row e.part own.0.row own.0.part in
      let place : h.place (part_of e.row e.part) ≡ k = own.1 in
      record { is_row = own.0.row; from = omega arith; to = omega arith }

  within_by : (k : ℕ) (g : Happening) (r : Row) → k < h.ticks → h.happening k ≡ g → Does C D h k g → By g (row r) → IsWithin r k
  within_by k (event e) r below is does by = subst (λ (q : Row). IsWithin q k) by (event_within k e below is)
  within_by k (change (row q)) r below is does by = subst (λ (q : Row). IsWithin q k) same (record { is_row = does.is_row; from = let less = does.entered in omega arith; to = let less = does.pending in omega arith })
    where
      same : q ≡ r
      same = cc by
  within_by k (change untraced) r below is does by = cc by
  within_by k nothing r below is does by = absurd by

  pub row_within : (k : ℕ) (r : Row) → k < h.ticks → By (h.happening k) (row r) → IsWithin r k
  row_within k r below by = within_by k (h.happening k) r below refl (x.does k below) by

  untraced_by : (k : ℕ) (g : Happening) → Does C D h k g → By g untraced → UntracedChanges C h k
  untraced_by k (event e) does by = absurd by
  untraced_by k (change (row q)) does by = cc by
  untraced_by k (change untraced) does by = does
  untraced_by k nothing does by = absurd by

  pub untraced_within : (k : ℕ) → k < h.ticks → By (h.happening k) untraced → UntracedChanges C h k
  untraced_within k below by = untraced_by k (h.happening k) (x.does k below) by

  pub act_is : (act : Act) (k : ℕ) → k < h.ticks → By (h.happening k) act → IsAct C act
  act_is (row r) k below by = (row_within k r below by).is_row
  act_is untraced k below by = (untraced_within k below by).told

  untraced_place : (k : ℕ) (e : Event) → UntracedChanges C h k → UntracedPrecedes C e → k < h.place e
  untraced_place k e does (f, told, way) = let less = does.early f told in let onward = or_kept C D h x f e way in omega arith

  untraced_early : (k : ℕ) (m : Moment) → k < h.ticks → UntracedChanges C h k → UntracedBefore C m → k < tick C h m
  untraced_early k (before r) below does way = untraced_place k (first_event C r) does way
  untraced_early k (after r) below does way = let less = untraced_place k (last_event C r) does way in omega arith
  untraced_early k at_end below does way = below

  -- Whoever acts at a tick: where the order puts it wholly before a moment, the tick is before the
  -- moment, and after it where it puts it wholly after.
  pub acts_before : (act : Act) (k : ℕ) (m : Moment) → k < h.ticks → By (h.happening k) act → IsMoment C m → WhollyBefore C act m → k < tick C h m
  acts_before (row r) k m below by is way =
      let within = row_within k r below by in
      let kept = order_kept C D h x (after r) m within.is_row is way in
      let inside = within.to in
      omega arith
  acts_before untraced k m below by is way = untraced_early k m below (untraced_within k below by) way

  pub acts_after : (act : Act) (k : ℕ) (w : Moment) → k < h.ticks → By (h.happening k) act → IsMoment C w → WhollyAfter C act w → tick C h w ≤ k
  acts_after (row r) k w below by is way =
      let within = row_within k r below by in
      let kept = order_kept C D h x w (before r) is within.is_row way in
      let inside = within.from in
      omega arith
  acts_after untraced k w below by is way = absurd way

  module _ (a : ℕ) where
    -- no one who acts at the tick writes the byte
    abbrev pub IsSpared : ℕ → Type 0
    IsSpared k = (act : Act) → By (h.happening k) act → ActWrites C D h act a → ⊥

    -- a row that is no call writes at its tick
    whole_writes : (r : Row) (k : ℕ) (its_row : StepRow) → row_at C r ≡ Some its_row → (tick C h (before r) ≡ k) × (tick C h (after r) ≡ suc k) → WritesBy its_row.instr D.image_end (seen_by r.thread (h.world k)) (seen_by r.thread (h.world (suc k))) a → RowWrites C D h r a
    whole_writes r k its_row is places writes =
        let from = subst (λ (i : ℕ). WritesBy its_row.instr D.image_end (seen_by r.thread (h.world i)) (seen_by r.thread (h.world (suc k))) a) (sym places.0) writes in
        let to = subst (λ (i : ℕ). WritesBy its_row.instr D.image_end (state_at C h r.thread (before r)) (seen_by r.thread (h.world i)) a) (sym places.1) from in
        match_some (row_at C r) its_row (λ (s : StepRow). WritesBy s.instr D.image_end (state_at C h r.thread (before r)) (state_at C h r.thread (after r)) a) is to

    executed_keeps : (r : Row) (k : ℕ) → k < h.ticks → h.happening k ≡ event (part_of r whole) → ExecutesRow C D r (record { old = h.world k; new = h.world (suc k) }) → (RowWrites C D h r a → ⊥) → (h.world (suc k)).memory a ≡ (h.world k).memory a
    executed_keeps r k below is does out =
        let own = x.once k (part_of r whole) below is in
        effect_keeps_byte does.its_row.instr D.image_end (addresses_of does.its_row) (seen_by r.thread (h.world k)) (seen_by r.thread (h.world (suc k))) a does.step (λ writes. out (whole_writes r k does.its_row does.is_row (whole_ticks r k own.0.part own.1) writes))

    event_keeps : (r : Row) (p : Part) (k : ℕ) → k < h.ticks → h.happening k ≡ event (part_of r p) → Occurs C D r (record { old = h.world k; new = h.world (suc k) }) p → (RowWrites C D h r a → ⊥) → (h.world (suc k)).memory a ≡ (h.world k).memory a
    event_keeps r whole k below is does out = executed_keeps r k below is does out
    event_keeps r entry k below is does out = does.memory a
    event_keeps r return k below is does out = does.memory a

    keeps_by : (k : ℕ) (g : Happening) → k < h.ticks → h.happening k ≡ g → Does C D h k g → ((act : Act) → By g act → ActWrites C D h act a → ⊥) → (h.world (suc k)).memory a ≡ (h.world k).memory a
    keeps_by k (event e) below is does spared = event_keeps e.row e.part k below is does (spared (row e.row) refl)
    keeps_by k (change (row r)) below is does spared = does.memory a (λ m. spared (row r) refl (call_writes (row_at C r) D.image_end (state_at C h r.thread (before r)) (state_at C h r.thread (after r)) a does.call m))
    keeps_by k (change untraced) below is does spared = absurd (spared untraced refl tt)
    keeps_by k nothing below is does spared = does.memory a

    -- a tick at which no one who may write the byte acts leaves it as it was
    pub keeps : (k : ℕ) → k < h.ticks → IsSpared k → (h.world (suc k)).memory a ≡ (h.world k).memory a
    keeps k below spared = keeps_by k (h.happening k) below refl (x.does k below) spared
