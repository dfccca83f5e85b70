-- What is told of a report of any number of threads holds in every execution of them.
use Rattle.std.proofs.Common.{◌≡◌, ℕ, ◌<◌, ◌≤◌, Bool, List, All, length, Option, Some, None, refl, sym, ap, subst, ◌∙◌, arith}
use mathlib.Core.Path.{fun_ext}
use Rattle.std.proofs.lemmas.Bool.{false≢true}
use Rattle.std.proofs.lemmas.List.Elements.{All-weaker}
use Rattle.rept_isa.specs.declared.row.StepRow.{StepRow}
use Rattle.rept_partial.specs.Sets.{AreLawful as AreLawfulSets}
use Rattle.rept_steps.specs.Course.{Course, IsSoundCourse, rows_of}
use Rattle.rept_order.specs.History.{History, Ending}
use Rattle.rept_order.specs.Legs.{number_of, registers_on}
use Rattle.rept_order.specs.Moments.{Moment}
use Rattle.rept_order.specs.Points.{memory_at, moment_of_point}
use Rattle.rept_order.specs.Writers as order
use Rattle.rept_moments.specs.Naming.Numbered.{row_on}
use Rattle.rept_moments.proofs.NamingLemmas.Naming.{row_inside}
use Rattle.rept_moments.specs.Seen.{alone_by, moment_in, seen, seen_by}
use Rattle.rept_found.specs.Places.Places.{last_by, last_on, place_on, point_on, thread_point}
use Rattle.rept_reason.specs.declared.fact.Fact.{Fact}
use Rattle.rept_reason.specs.declared.fact.Cell.{Cell}
use Rattle.rept_reason.specs.declared.fact.Cell.TheVariants.{Register, Byte}
use Rattle.rept_reason.specs.Facts.{Knowledge}
use Rattle.rept_span.specs.Moves.{AreMoves}
use Rattle.rept_span.specs.Ranges.{range}
use Rattle.rept_moments.proofs.Apart.{legs_seen, moments_seen}
use Rattle.rept_report.specs.Setting.{Setting, Uses, way_of}
use Rattle.rept_report.specs.Spots.{spot}
use Rattle.rept_report.specs.Runs.{Runs}
use Rattle.rept_report.specs.declared.writer.Writer.{Writer}
use Rattle.rept_report.specs.declared.writer.Writer as writers
use Rattle.rept_report.specs.Views.{registers_at as seen_registers, touched_by}
use Rattle.rept_report.specs.Writers.{IsCandidate, IsWriter}
use Rattle.rept_report.specs.Soundness.{IsSound as IsSoundReport, HasNoExecution as HasNoRun}
use Rattle.rept_report.specs.Why.{Because, IsReason, IsGiven, RangeAlwaysHolds as RangeHoldsInRuns}
use Rattle.rept_report.specs.Implied.{HasEnded, known_at_end}
use Rattle.rept_report.specs.Log.{Entry, logged_of}
use Rattle.rept_report.specs.OneThread.{ThreadPath, path_setting}
use Rattle.rept_found.specs.Trip.Trip.{Trip, setting_on}
use Rattle.rept_found.specs.Trip.Alone.{trip_of}
use Rattle.rept_found.specs.Trip.Executed.{IsHistoryOf, HasNoHistory, moment_named, run_on, writer_on}
use Rattle.rept_found.specs.Trip.Last.{writer_found}
use Rattle.rept_found.proofs.TripLemmas.Acting.{writer_so}
use Rattle.rept_found.proofs.TripLemmas.Naming.{place_named}
use Rattle.rept_found.proofs.TripLemmas.Paths.{is_sound}
use Rattle.rept_found.proofs.TripLemmas.Seeing.{history_runs}
use Rattle.rept_found.proofs.TripLemmas.Telling.{IsTold, told_by}
use Rattle.rept_found.specs.Chains.{RestsOn}
use Rattle.rept_found.specs.Crash.{Means, Scene, trip_by}
use Rattle.rept_found.specs.Telling.{shown_on}
use Rattle.rept_found.specs.Histories.{IsRowReached, IsTrueIn, RangeHoldsInAll, IsTrueBecause, IsTrueTrip, WriterReaches}
use Rattle.rept_found.proofs.Tellings.{writer_fits}
use Rattle.rept_found.proofs.Truths.{register_true, left_true, noted_true}

-- the laws of the setting of a trip
pub uses_trip : {W : Type 0} (m : Means W) (C : Course) (D : Ending) → IsSoundCourse C → Uses (setting_on (trip_by m C D)) m.sets m.moves m.rules
uses_trip m C D sound = record { its_sets = refl; its_moves = refl; its_rules = refl; its_legs = legs_seen C; its_moments = moments_seen C sound }

-- where there is no run, there is no execution
pub no_history : {W : Type 0} (t : Trip W) → IsSoundCourse t.course → 0 < length t.course.threads → HasNoRun (setting_on t) → HasNoHistory t
no_history t sound some none h x = none (run_on t.course h) (history_runs t h sound some x)

pub no_history_alone : {W : Type 0} (P : ThreadPath W) → HasNoRun (path_setting P) → HasNoHistory (trip_of P)
no_history_alone P none = no_history (trip_of P) (is_sound P.given.rows) (omega arith) none

module _ {W : Type 0} (m : Means W) (sets : AreLawfulSets m.sets) (moves : AreMoves m.sets m.moves) (C : Course) (D : Ending) (K : Knowledge) (sound : IsSoundCourse C) (some : 0 < length C.threads) where
  abbrev There : Trip W
  There = trip_by m C D

  abbrev Here : Setting W
  Here = setting_on (trip_by m C D)

  runs : (h : History) → IsHistoryOf There h → Runs Here (run_on C h)
  runs h x = history_runs There h sound some x

  -- a row that may write a byte, and doesn't lie wholly after the moment
  row_reached : (k a j : ℕ) → k ≤ Here.moments.end → IsCandidate Here K (spot k a) j → IsRowReached C (record { moment = last_on C k; address = a }) (row_on C j)
  row_reached k a j few its = by (Here.legs.row j) refl
    where
      told : IsTold C (seen_by C (alone_by C.threads C.untraced)) (last_by C (alone_by C.threads C.untraced))
      told = told_by C sound (alone_by C.threads C.untraced) refl

      by : (o : Option StepRow) → Here.legs.row j ≡ o → IsRowReached C (record { moment = last_on C k; address = a }) (row_on C j)
      by (Some its_row) e =
          let is = row_inside C (row_on C j) its_row (told.there j its_row e) in
          record { is = is; not_after = λ past. false≢true (sym its.reaches ∙ told.ahead_from j k few is past) }
      by None e = absurd (false≢true (sym (ap (λ (o : Option StepRow). touched_by Here o (seen_registers Here K j) a) e) ∙ its.may))

  writer_reached : (k a : ℕ) → k ≤ Here.moments.end → (w : Writer) → IsWriter Here K (spot k a) w → WriterReaches C (record { moment = last_on C k; address = a }) (writer_on C w)
  writer_reached k a few (writers.TheVariants.Writes j) is = row_reached k a j few is.0.one
  writer_reached k a few (writers.TheVariants.MayWrite j) is = row_reached k a j few is.0.one
  writer_reached k a few writers.TheVariants.Several is = tt
  writer_reached k a few writers.TheVariants.None is = tt

  answers_true : IsSoundReport Here K → (scene : Scene) (h : History) → IsHistoryOf There h → IsTrueIn There (shown_on There K scene) h
  answers_true report scene h x = record {
    registers = λ p r v early e. register_true K (record { register = registers_on C h p; memory = λ a. 0 }) p r v ((runs h x).zero p (omega arith)) (λ known. report.facts p (Register r) v known (run_on C h) (runs h x)) e;
    ranges = λ p r early. left_true m sets (range (way_of Here) K p r) (registers_on C h p r) ((runs h x).words p r (omega arith)) (λ set is. report.ranges p r set (omega arith) is (run_on C h) (runs h x));
    notes = λ p r n early e. noted_true m moves (range (way_of Here) K p r) (registers_on C h p r) n (λ set is. report.ranges p r set (omega arith) is (run_on C h) (runs h x)) e;
    bytes = λ k a v early e. ap (λ (y : Moment). memory_at C h y a) (place_named C sound k (omega arith)) ∙ report.facts k (Byte a) v e (run_on C h) (runs h x);
    writers = λ k a early small. writer_so_named k a (omega arith) (writer_so There h sound x k a (omega arith) K (writer_found Here K (spot k a)) (writer_fits There K k a) (report.writers k a (writer_found Here K (spot k a)) (omega arith) small (writer_fits There K k a) (run_on C h) (runs h x)));
    reached = λ k a early. reached_named k a (omega arith) (writer_reached k a (omega arith) (writer_found Here K (spot k a)) (writer_fits There K k a));
  }
    where
      reached_named : (k a : ℕ) → k ≤ Here.moments.end → WriterReaches C (record { moment = last_on C k; address = a }) (writer_on C (writer_found Here K (spot k a))) → WriterReaches C (record { moment = moment_named C (place_on C k); address = a }) (writer_on C (writer_found Here K (spot k a)))
      reached_named k a few holds = subst (λ (y : Moment). WriterReaches C (record { moment = y; address = a }) (writer_on C (writer_found Here K (spot k a)))) (sym (place_named C sound k few)) holds

      writer_so_named : (k a : ℕ) → k ≤ Here.moments.end → order.WriterHoldsInHistory C D h (record { moment = last_on C k; address = a }) (writer_on C (writer_found Here K (spot k a))) → order.WriterHoldsInHistory C D h (record { moment = moment_named C (place_on C k); address = a }) (writer_on C (writer_found Here K (spot k a)))
      writer_so_named k a few holds = subst (λ (y : Moment). order.WriterHoldsInHistory C D h (record { moment = y; address = a }) (writer_on C (writer_found Here K (spot k a)))) (sym (place_named C sound k few)) holds

  -- what the laws of reasons say of an order in which the report was learnt
  because_true : (es : List Entry) (tracked : ℕ → Bool) (why : Because) → ((p : ℕ) (c : Cell) → known_at_end Here es tracked p c ≡ K p c) → All (IsGiven (known_at_end Here es tracked)) why.premises → All (RangeHoldsInRuns Here) why.ranges → IsTrueBecause There K why
  because_true es tracked why same premises ranges =
      let whole : known_at_end Here es tracked ≡ K = fun_ext (λ p. fun_ext (λ c. same p c)) in
      record {
        premises = subst (λ (L : Knowledge). All (IsGiven L) why.premises) whole premises;
        ranges = All-weaker (RangeHoldsInRuns Here) (RangeHoldsInAll There) (λ x holds h e. holds (run_on C h) (runs h e)) why.ranges ranges;
      }

  pub trip_true : IsSoundReport Here K
      → ((es : List Entry) (tracked : ℕ → Bool) (f : Fact) (why : Because) → HasEnded Here es tracked → IsReason Here (logged_of es) f why → All (IsGiven (known_at_end Here es tracked)) why.premises)
      → ((es : List Entry) (tracked : ℕ → Bool) (f : Fact) (why : Because) → HasEnded Here es tracked → IsReason Here (logged_of es) f why → All (RangeHoldsInRuns Here) why.ranges)
      → ((es : List Entry) (tracked : ℕ → Bool) (f : Fact) → HasEnded Here es tracked → RestsOn Here (logged_of es) f f → ⊥)
      → ((t p : ℕ) → t < length C.threads → p ≤ length (rows_of C t) → point_on C (number_of C t p) ≡ thread_point t p)
      → ((t p : ℕ) → t < length C.threads → p ≤ length (rows_of C t) → moment_named C (place_on C (moment_in (seen C) (number_of C t p))) ≡ moment_of_point C t p) → IsTrueTrip There K
  trip_true report premises ranges circles named moments = record {
    answers = answers_true report;
    reasons = λ log f why l is.
        let here : IsReason Here (logged_of l.entries) f why = subst (λ (fs : List Fact). IsReason Here fs f why) (sym l.logged) is in
        because_true l.entries l.tracked why l.knows (premises l.entries l.tracked f why l.ended here) (ranges l.entries l.tracked f why l.ended here);
    circles = λ log f l rests. circles l.entries l.tracked f l.ended (subst (λ (fs : List Fact). RestsOn Here fs f f) (sym l.logged) rests);
    points = λ scene c is. record { point = named c.thread c.point is.0 is.1; moment = moments c.thread c.point is.0 is.1 };
  }
