-- What is said of the writers of a byte in a run is so of the execution that the run is of.
use Rattle.std.proofs.Common.{◌≡◌, ℕ, suc, ◌+◌, ◌<◌, ◌≤◌, true, false, Option, Some, None, MatchOption, inl, inr, refl, sym, ap, ◌∙◌, subst, arith}
use Rattle.std.proofs.lemmas.Bool.{false≢true}
use Rattle.rept_isa.specs.declared.row.StepRow.{StepRow}
use Rattle.rept_machine.proofs.StepLaws.{written_by_registers}
use Rattle.rept_steps.specs.Course.{Course, Row, IsRow, row_at, IsSoundCourse}
use Rattle.rept_order.specs.Moments.{IsMoment, Act, IsAct, WhollyBefore, WhollyAfter}
use Rattle.rept_order.specs.Moments.Moment.{before, after}
use Rattle.rept_order.specs.Moments.Act.{row, untraced}
use Rattle.rept_order.specs.History.{History, Ending, tick, state_at}
use Rattle.rept_order.specs.Points.{thread_registers}
use Rattle.rept_order.specs.Legs.{Point, number_of, registers_on}
use Rattle.rept_order.specs.Interleaved.{leg_of}
use Rattle.rept_order.specs.Writing.{WritesBy, RowWrites, ActWrites, By}
use Rattle.rept_order.specs.Writers as order
use Rattle.rept_order.proofs.Ticks.{order_kept}
use Rattle.rept_order.proofs.Keeps.{act_is, acts_before, acts_after}
use Rattle.rept_order.proofs.Points.{registers_after, registers_before, stores_cover}
use Rattle.rept_order.proofs.Legs.{number_point, point_number, thread_inside}
use Rattle.rept_moments.specs.Naming.Numbered.{row_on}
use Rattle.rept_moments.proofs.NamingLemmas.Naming.{row_inside}
use Rattle.rept_moments.specs.Seen.{alone_by, seen_by}
use Rattle.rept_found.specs.Places.Places.{last_by, last_on}
use Rattle.rept_reason.specs.Facts.{Knowledge}
use Rattle.rept_report.specs.declared.writer.Writer.{Writer}
use Rattle.rept_report.specs.declared.writer.Writer as writers
use Rattle.rept_report.specs.Setting.{Setting}
use Rattle.rept_report.specs.Spots.{spot}
use Rattle.rept_report.specs.Views.{registers_at as seen_registers, touched_by, may_write}
use Rattle.rept_report.specs.Runs.{Run, StepWrites, state_before, state_after}
use Rattle.rept_report.specs.Writers.{IsWriter}
use Rattle.rept_report.specs.Soundness.{NoneSince, WriterHolds}
use Rattle.rept_found.specs.Trip.Trip.{Trip, setting_on}
use Rattle.rept_found.specs.Trip.Executed.{IsHistoryOf, run_on, spot_on, writer_on}
use Rattle.rept_found.proofs.TripLemmas.Telling.{IsTold, same_leg, told_by}

match_is : (o : Option StepRow) (P : StepRow → Type 0) → MatchOption o ⊥ P → (x : StepRow) × (o ≡ Some x) × P x
match_is None P h = absurd h
match_is (Some x) P h = (x, refl, h)

match_at : (o : Option StepRow) (x : StepRow) (P : StepRow → Type 0) → o ≡ Some x → P x → MatchOption o ⊥ P
match_at o x P e h = subst (λ (y : Option StepRow). MatchOption y ⊥ P) (sym e) h

module _ {W : Type 0} (t : Trip W) (h : History) (sound : IsSoundCourse t.course) (x : IsHistoryOf t h) where
  abbrev C : Course
  C = t.course

  abbrev D : Ending
  D = t.ending

  abbrev S : Setting W
  S = setting_on t

  abbrev run : Run
  run = run_on t.course h

  told : IsTold C (seen_by C (alone_by C.threads C.untraced)) (last_by C (alone_by C.threads C.untraced))
  told = told_by C sound (alone_by C.threads C.untraced) refl

  before_leg : (r : Row) → IsRow C r → registers_on C h (leg_of C r) ≡ (h.world (tick C h (before r))).register r.thread
  before_leg r is = ap (λ (y : Point). thread_registers C h y.thread y.number) (point_number C r.thread r.step (thread_inside C r is) (omega arith)) ∙ registers_before C D h x r.thread r.step is

  after_leg : (r : Row) → IsRow C r → registers_on C h (leg_of C r + 1) ≡ (h.world (tick C h (after r))).register r.thread
  after_leg r is =
      let next : leg_of C r + 1 ≡ number_of C r.thread (suc r.step) = omega arith in
      ap (registers_on C h) next ∙ ap (λ (y : Point). thread_registers C h y.thread y.number) (point_number C r.thread (suc r.step) (thread_inside C r is) is) ∙ registers_after C D h x r.thread r.step is

  -- the number of the row at a number
  leg_here : (i : ℕ) → leg_of C (row_on C i) ≡ i
  leg_here i = number_point C i

  -- a row writes in the execution what it writes in the run
  row_step : (r : Row) (a : ℕ) → IsRow C r → RowWrites C D h r a → StepWrites S run (leg_of C r) a
  row_step r a is writes =
      let its = match_is (row_at C r) (λ its_row. WritesBy its_row.instr D.image_end (state_at C h r.thread (before r)) (state_at C h r.thread (after r)) a) writes in
      record {
        row = its.0;
        is_row = told.here r its.0 its.1;
        writes = written_by_registers its.0.instr D.image_end (state_at C h r.thread (before r)) (state_at C h r.thread (after r)) (state_before S run (leg_of C r)) (state_after S run (leg_of C r) its.0) a (sym (before_leg r is)) (sym (after_leg r is)) its.2;
      }

  step_row : (i a : ℕ) → StepWrites S run i a → IsRow C (row_on C i) × RowWrites C D h (row_on C i) a
  step_row i a w =
      let at = told.there i w.row w.is_row in
      let is = row_inside C (row_on C i) w.row at in
      let from : registers_on C h i ≡ (h.world (tick C h (before (row_on C i)))).register (row_on C i).thread = ap (registers_on C h) (sym (leg_here i)) ∙ before_leg (row_on C i) is in
      let to : registers_on C h (i + 1) ≡ (h.world (tick C h (after (row_on C i)))).register (row_on C i).thread = ap (λ (k : ℕ). registers_on C h (k + 1)) (sym (leg_here i)) ∙ after_leg (row_on C i) is in (
        is,
        match_at (row_at C (row_on C i)) w.row (λ its_row. WritesBy its_row.instr D.image_end (state_at C h (row_on C i).thread (before (row_on C i))) (state_at C h (row_on C i).thread (after (row_on C i))) a) at
            (written_by_registers w.row.instr D.image_end (state_before S run i) (state_after S run i w.row) (state_at C h (row_on C i).thread (before (row_on C i))) (state_at C h (row_on C i).thread (after (row_on C i))) a from to w.writes),
      )

  -- a row that may write is there
  may_row : (K : Knowledge) (i a : ℕ) → may_write S K i a ≡ true → IsRow C (row_on C i)
  may_row K i a may = by (S.legs.row i) refl
    where
      by : (o : Option StepRow) → S.legs.row i ≡ o → IsRow C (row_on C i)
      by (Some its_row) is = row_inside C (row_on C i) its_row (told.there i its_row is)
      by None is = absurd (false≢true (sym (ap (λ (o : Option StepRow). touched_by S o (seen_registers S K i) a) is) ∙ may))

  module _ (m a : ℕ) (few : m ≤ S.moments.end) where
    is_moment : IsMoment C (last_on C m)
    is_moment = told.moment m few

    late_row : (r : Row) (k : ℕ) → IsRow C r → k < tick C h (last_on C m) → k < h.ticks → By (h.happening k) (row r) → S.moments.ahead (leg_of C r) m ≡ true → ⊥
    late_row r k is to inside by ahead =
        let same = same_leg C r is in
        let way : WhollyAfter C (row r) (last_on C m) = subst (λ (q : Row). WhollyAfter C (row q) (last_on C m)) same (told.ahead (leg_of C r) m few (subst (λ (q : Row). IsRow C q) (sym same) is) ahead) in
        let past = acts_after C D h x (row r) k (last_on C m) inside by is_moment way in
        absurd (omega arith)

    early_row : (r : Row) (j k : ℕ) → IsRow C r → IsRow C (row_on C j) → tick C h (before (row_on C j)) ≤ k → k < h.ticks → By (h.happening k) (row r) → S.moments.later j (leg_of C r) ≡ true → ⊥
    early_row r j k is its from inside by later =
        let same = same_leg C r is in
        let way : WhollyBefore C (row r) (before (row_on C j)) = subst (λ (q : Row). WhollyBefore C (row q) (before (row_on C j))) same (told.later j (leg_of C r) its (subst (λ (q : Row). IsRow C q) (sym same) is) later) in
        let less = acts_before C D h x (row r) k (before (row_on C j)) inside by its way in
        absurd (omega arith)

    early_untraced : (j k : ℕ) → IsAct C untraced → IsRow C (row_on C j) → tick C h (before (row_on C j)) ≤ k → k < h.ticks → By (h.happening k) untraced → S.moments.untraced_before j ≡ true → ⊥
    early_untraced j k is its from inside by first =
        let less = acts_before C D h x untraced k (before (row_on C j)) inside by its (told.untraced_before j is its first) in
        absurd (omega arith)

    -- nothing writes since a row
    since : (j : ℕ) → IsRow C (row_on C j) → NoneSince S run (spot m a) j → order.NoneWrites C D h (spot_on C m a) (tick C h (before (row_on C j))) (λ act. act ≡ row (row_on C j))
    since j its none = record { none = λ act k out from to inside by writes. each act k out from to inside by writes }
      where
        each : (act : Act) (k : ℕ) → (act ≡ row (row_on C j) → ⊥) → tick C h (before (row_on C j)) ≤ k → k < tick C h (last_on C m) → k < h.ticks → By (h.happening k) act → ActWrites C D h act a → ⊥
        each (row r) k out from to inside by writes =
            let is = act_is C D h x (row r) k inside by in
            elim (none.rows (leg_of C r) (row_step r a is writes)) [
              | inl same ↦ out (ap row (sym (same_leg C r is) ∙ ap (row_on C) same))
              | inr (inl later) ↦ early_row r j k is its from inside by later
              | inr (inr ahead) ↦ late_row r k is to inside by ahead
            ]
        each untraced k out from to inside by writes =
            let is = act_is C D h x untraced k inside by in
            early_untraced j k is its from inside by (none.untraced (told.is_untraced is))

    -- nothing writes before the moment
    never : S.moments.is_untraced ≡ false → ((k : ℕ) → StepWrites S run k a → S.moments.ahead k m ≡ true) → order.NoneWrites C D h (spot_on C m a) 0 (λ act. ⊥)
    never light none = record { none = λ act k out from to inside by writes. each act k to inside by writes }
      where
        each : (act : Act) (k : ℕ) → k < tick C h (last_on C m) → k < h.ticks → By (h.happening k) act → ActWrites C D h act a → ⊥
        each (row r) k to inside by writes =
            let is = act_is C D h x (row r) k inside by in
            late_row r k is to inside by (none (leg_of C r) (row_step r a is writes))
        each untraced k to inside by writes = false≢true (sym light ∙ told.is_untraced (act_is C D h x untraced k inside by))

    -- a row that writes, and lies wholly before the moment, is over then
    over : (j : ℕ) → IsRow C (row_on C j) → RowWrites C D h (row_on C j) a → S.moments.past j m ≡ true → tick C h (after (row_on C j)) ≤ tick C h (last_on C m)
    over j its writes past = order_kept C D h x (after (row_on C j)) (last_on C m) its is_moment (told.past j m few its (stores_cover C D h (row_on C j) a its writes) past)

    pub writer_so : (K : Knowledge) (w : Writer) → IsWriter S K (spot m a) w → WriterHolds S run (spot m a) w → order.WriterHoldsInHistory C D h (spot_on C m a) (writer_on C w)
    writer_so K (writers.TheVariants.Writes j) is holds = let its = step_row j a holds.0 in (its.1, over j its.0 its.1 holds.1, since j its.0 holds.2)
    writer_so K (writers.TheVariants.MayWrite j) is holds = since j (may_row K j a is.0.one.may) holds
    writer_so K writers.TheVariants.Several is holds = tt
    writer_so K writers.TheVariants.None is holds = never holds.0 holds.1
