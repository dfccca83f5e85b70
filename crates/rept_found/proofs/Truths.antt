-- What is told of a report holds in every execution, and reasons rest on it.
use Rattle.std.proofs.Common.{◌≡◌, ℕ, ◌+◌, ◌<◌, ◌≤◌, ◌^◌, Bool, true, cond, eqb, List, All, Option, Some, None, inl, inr, refl, sym, ap, subst, ◌∙◌, arith}
use mathlib.Core.Path.{fun_ext}
use Rattle.std.specs.Prelude.{bit_and}
use Rattle.std.proofs.lemmas.Bool.{cases_eq, cond-true, cond-false, eq-eqb, ne_eqb, leb-true, leb-false}
use Rattle.std.proofs.lemmas.List.Elements.{All-weaker}
use Rattle.rept_isa.specs.declared.row.StepRow.{StepRow}
use Rattle.rept_isa.specs.Operands.{is_call}
use Rattle.rept_machine.specs.State.{State}
use Rattle.rept_partial.specs.Sets.{AreLawful as AreLawfulSets}
use Rattle.rept_reason.specs.declared.fact.Fact.{Fact}
use Rattle.rept_reason.specs.declared.reason.RangePremise.{RangePremise}
use Rattle.rept_reason.specs.declared.fact.Cell.{Cell}
use Rattle.rept_reason.specs.declared.fact.Cell.TheVariants.{Register, Byte}
use Rattle.rept_reason.specs.Facts.{Knowledge, register_known}
use Rattle.rept_span.specs.Moves.{AreMoves}
use Rattle.rept_span.specs.Ranges.{range}
use Rattle.rept_report.specs.Setting.{Setting, Uses, way_of}
use Rattle.rept_report.specs.Runs.{Runs, StepWrites as RowWrites}
use Rattle.rept_report.specs.OneThread.{run_of_states}
use Rattle.rept_report.specs.Spots.{spot}
use Rattle.rept_report.specs.declared.writer.Writer.{Writer}
use Rattle.rept_report.specs.declared.writer.Writer as writers
use Rattle.rept_report.specs.Views.{bounds}
use Rattle.rept_report.specs.Writers.{IsWriter}
use Rattle.rept_report.proofs.ViewLaws.{bounds_cover, words_between}
use Rattle.rept_report.specs.Soundness.{IsSound, HasNoExecution as HasNoRun, WriterHolds as WriterHoldsIn}
use Rattle.rept_report.specs.Why.{Because, IsReason, IsGiven, RangeAlwaysHolds as RangeHoldsInRuns}
use Rattle.rept_report.specs.Implied.{HasEnded, known_at_end}
use Rattle.rept_report.specs.Log.{Entry, logged_of}
use Rattle.rept_report.proofs.OneThread.{rows_within, are_points, execution_runs, none_later, writes_told}
use Rattle.rept_report.specs.OneThread.{ThreadPath, path_setting}
use Rattle.rept_found.specs.Chains.{RestsOn}
use Rattle.rept_found.specs.Crash.{Crash, Means, path_of, Scene}
use Rattle.rept_found.specs.Trip.Alone.{trip_of}
use Rattle.rept_found.specs.Trip.Last.{writer_found}
use Rattle.rept_found.specs.Telling.{noted, shown_of}
use Rattle.rept_found.specs.Truth.{ExecutesPath, HasNoExecutionOfPath, StepOfPathWrites, WriterHoldsOnPath, RangeAlwaysHoldsOnPath, IsTrueOf, IsTrueReason, IsTrueReport}
use Rattle.rept_found.proofs.Tellings.{writer_fits}

some_is : {x v : ℕ} → Some x ≡ Some v → x ≡ v
some_is e = cc

-- x0 holds 0
pub register_true : (K : Knowledge) (s : State) (p r v : ℕ) → s.register 0 ≡ 0 → (K p (Register r) ≡ Some v → s.register r ≡ v) → register_known K p r ≡ Some v → s.register r ≡ v
register_true K s p r v zero known e =
    elim (cases_eq r 0) [
      | inl z ↦ ap s.register z ∙ zero ∙ some_is (sym (cond-true (eqb r 0) (Some 0) (K p (Register r)) (eq-eqb r 0 z)) ∙ e)
      | inr ne ↦ known (sym (cond-false (eqb r 0) (Some 0) (K p (Register r)) (ne_eqb r 0 ne)) ∙ e)
    ]

-- a word lies between the bounds of the values that are left, where it is one of those of the
-- report
pub left_true : {W : Type 0} (m : Means W) → AreLawfulSets m.sets → (o : Option W) (v : ℕ) → v < 2 ^ 32 → ((set : W) → o ≡ Some set → m.sets.has set v ≡ true) → ((bounds m.sets o).lo ≤ v) × (v ≤ (bounds m.sets o).hi)
left_true m laws None v small in_set = words_between v small
left_true m laws (Some set) v small in_set = bounds_cover m.sets laws (Some set) v (in_set set refl)

-- and has the bits that are noted of them
pub noted_true : {W : Type 0} (m : Means W) → AreMoves m.sets m.moves → (o : Option W) (v : ℕ) (n : ℕ × ℕ) → ((set : W) → o ≡ Some set → m.sets.has set v ≡ true) → noted m.moves o ≡ Some n → bit_and v n.0 ≡ n.1
noted_true m moves None v n in_set e = absurd (nothing e)
  where
    nothing : {n : ℕ × ℕ} → None ≡ Some n → ⊥
    nothing e = cc
noted_true m moves (Some set) v n in_set e = moves.noted set n e v (in_set set refl)

-- An execution of the path is a run, so what holds in every run holds in it.
module _ {W : Type 0} (P : ThreadPath W) where
  runs : (states : ℕ → State) → ExecutesPath P states → Runs (path_setting P) (run_of_states states)
  runs states x = execution_runs P.sets P.moves P.rules P.given states x

  -- where there is no run, there is no execution
  pub no_execution : HasNoRun (path_setting P) → HasNoExecutionOfPath P
  no_execution none states x = none (run_of_states states) (runs states x)

  -- what a step writes, it writes in the run
  step_row : (states : ℕ → State) (j a : ℕ) → StepOfPathWrites P states j a → RowWrites (path_setting P) (run_of_states states) j a
  step_row states j a h = record {
    row = h.row;
    is_row = h.is_row;
    writes = writes_told P.sets P.moves P.rules P.given h.row.instr P.given.image_end (states j).register (states (j + 1)).register (states j).memory (states (j + 1)).memory (states j).memory (states (cond (is_call h.row.instr) j (j + 1))).memory a h.writes;
  }

  row_step : (states : ℕ → State) (j a : ℕ) → RowWrites (path_setting P) (run_of_states states) j a → StepOfPathWrites P states j a
  row_step states j a h = record {
    row = h.row;
    is_row = h.is_row;
    writes = writes_told P.sets P.moves P.rules P.given h.row.instr P.given.image_end (states j).register (states (j + 1)).register (states j).memory (states (cond (is_call h.row.instr) j (j + 1))).memory (states j).memory (states (j + 1)).memory a h.writes;
  }

  writer_true : (K : Knowledge) (states : ℕ → State) (p a : ℕ) (w : Writer) → IsWriter (path_setting P) K (spot p a) w → WriterHoldsIn (path_setting P) (run_of_states states) (spot p a) w → WriterHoldsOnPath P states (spot p a) w
  writer_true K states p a (writers.TheVariants.Writes j) is h = (leb-false p j is.0.one.reaches, row_step states j a h.0, λ k above low w. none_later P.sets P.moves P.rules P.given (run_of_states states) p a j h.2 k above low (step_row states k a w))
  writer_true K states p a (writers.TheVariants.MayWrite j) is h = (leb-false p j is.0.one.reaches, λ k above low w. none_later P.sets P.moves P.rules P.given (run_of_states states) p a j h k above low (step_row states k a w))
  writer_true K states p a writers.TheVariants.Several is h = tt
  writer_true K states p a writers.TheVariants.None is h = λ k low w. let high = leb-true p k (h.1 k (step_row states k a w)) in omega (arith, low, high)

  -- so do ranges
  ranges_true : (xs : List RangePremise) → All (RangeHoldsInRuns (path_setting P)) xs → All (RangeAlwaysHoldsOnPath P) xs
  ranges_true xs h = All-weaker (RangeHoldsInRuns (path_setting P)) (RangeAlwaysHoldsOnPath P) (λ x holds states e. holds (run_of_states states) (runs states e)) xs h

module _ {W : Type 0} (m : Means W) (sets : AreLawfulSets m.sets) (moves : AreMoves m.sets m.moves) (crash : Crash) (rows : List StepRow) (K : Knowledge) where
  abbrev Here : Setting W
  Here = path_setting (path_of m crash rows)

  abbrev There : ThreadPath W
  There = path_of m crash rows

  answers_true : IsSound Here K → (end : Scene) (run : ℕ → State) → ExecutesPath There run → IsTrueOf There (shown_of There K end) run
  answers_true sound end run x = record {
    registers = λ p r v early e. register_true K (run p) p r v (x.states p early).zero (λ known. sound.facts p (Register r) v known (run_of_states run) (runs There run x)) e;
    ranges = λ p r early. left_true m sets (range (way_of Here) K p r) ((run p).register r) ((x.states p early).words r) (λ set is. sound.ranges p r set early is (run_of_states run) (runs There run x));
    notes = λ p r n early e. noted_true m moves (range (way_of Here) K p r) ((run p).register r) n (λ set is. sound.ranges p r set early is (run_of_states run) (runs There run x)) e;
    bytes = λ p a v e. sound.facts p (Byte a) v e (run_of_states run) (runs There run x);
    writers = λ p a early small. writer_true There K run p a (writer_found Here K (spot p a)) (writer_fits (trip_of There) K p a) (sound.writers p a (writer_found Here K (spot p a)) early small (writer_fits (trip_of There) K p a) (run_of_states run) (runs There run x));
  }

  -- what the laws of reasons say of an order in which the report was learnt
  reason_true : (es : List Entry) (tracked : ℕ → Bool) (log : List Fact) (why : Because) → ((p : ℕ) (c : Cell) → known_at_end Here es tracked p c ≡ K p c) → All (IsGiven (known_at_end Here es tracked)) why.premises → All (RangeHoldsInRuns Here) why.ranges → IsTrueReason There K why
  reason_true es tracked log why same premises ranges =
      let whole : known_at_end Here es tracked ≡ K = fun_ext (λ p. fun_ext (λ c. same p c)) in
      record { premises = subst (λ (L : Knowledge). All (IsGiven L) why.premises) whole premises; ranges = ranges_true There why.ranges ranges }

  pub report_true : IsSound Here K
      → ((es : List Entry) (tracked : ℕ → Bool) (f : Fact) (why : Because) → HasEnded Here es tracked → IsReason Here (logged_of es) f why → All (IsGiven (known_at_end Here es tracked)) why.premises)
      → ((es : List Entry) (tracked : ℕ → Bool) (f : Fact) (why : Because) → HasEnded Here es tracked → IsReason Here (logged_of es) f why → All (RangeHoldsInRuns Here) why.ranges)
      → ((es : List Entry) (tracked : ℕ → Bool) (f : Fact) → HasEnded Here es tracked → RestsOn Here (logged_of es) f f → ⊥) → IsTrueReport There K
  report_true sound premises ranges circles = record {
    sets = λ run x p r set early is. sound.ranges p r set early is (run_of_states run) (runs There run x);
    answers = answers_true sound;
    reasons = λ log f why l is.
        let here : IsReason Here (logged_of l.entries) f why = subst (λ (fs : List Fact). IsReason Here fs f why) (sym l.logged) is in
        reason_true l.entries l.tracked log why l.knows (premises l.entries l.tracked f why l.ended here) (ranges l.entries l.tracked f why l.ended here);
    circles = λ log f l rests. circles l.entries l.tracked f l.ended (subst (λ (fs : List Fact). RestsOn Here fs f f) (sym l.logged) rests);
  }

pub uses_here : {W : Type 0} (m : Means W) (crash : Crash) (rows : List StepRow) → Uses (path_setting (path_of m crash rows)) m.sets m.moves m.rules
uses_here m crash rows = record { its_sets = refl; its_moves = refl; its_rules = refl; its_legs = rows_within rows; its_moments = are_points rows }
