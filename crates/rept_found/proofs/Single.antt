-- What is shown of a path, in its own words.
use Rattle.std.proofs.Common.{◌≡◌, ℕ, zero, suc, ◌+◌, ◌-◌, ◌<◌, ◌≤◌, cond, Bool, true, false, List, [], ◌∷◌, length, slice_get, inl, inr, refl, sym, ap, ◌∙◌, arith}
use Rattle.std.specs.Prelude.{is_some}
use Rattle.std.proofs.lemmas.Bool.{false≢true, cases_lt, cases_order, lt-ltb, le-ltb, lt-leb, leb-false, and_from, and_left}
use Rattle.std.proofs.lemmas.Option.{slice_get_cases}
use Rattle.rept_isa.specs.declared.row.StepRow.{StepRow}
use Rattle.rept_steps.specs.Course.{Course}
use Rattle.rept_steps.specs.Runs.{course_of, run_of_one}
use Rattle.rept_order.specs.Legs.{Point}
use Rattle.rept_reason.specs.Facts.{Knowledge}
use Rattle.rept_span.specs.Ranges.{legs_of}
use Rattle.rept_report.specs.declared.writer.Writer.{Writer}
use Rattle.rept_report.specs.declared.writer.Writer as writers
use Rattle.rept_report.specs.Setting.{Setting}
use Rattle.rept_report.specs.Spots.{spot}
use Rattle.rept_report.specs.Views.{may_write, is_sure}
use Rattle.rept_report.specs.Writers.{IsCandidate, IsWriter}
use Rattle.rept_report.proofs.WriterLaws.{one_writer}
use Rattle.rept_report.specs.OneThread.{ThreadPath, path_setting}
use Rattle.rept_moments.proofs.Apart.{legs_seen}
use Rattle.rept_facts.specs.Counts.{rows_below}
use Rattle.rept_facts.proofs.Counting.{count_full}
use Rattle.rept_found.specs.Places.Places.{thread_point, point_named, point_on, named_on, place_on}
use Rattle.rept_timeline.proofs.Only.{past_points}
use Rattle.rept_found.specs.Trip.Alone.{trip_of}
use Rattle.rept_found.specs.Trip.Last.{writer_found}
use Rattle.rept_found.proofs.TripLemmas.Last.{found_fits}
use Rattle.rept_found.proofs.TripLemmas.Single.{point_here, last_low, last_high, moment_alone}
use Rattle.rept_dump.specs.Program.{Program}
use Rattle.rept_found.specs.Crash.{Scene, ThreadEnd, ended_at}
use Rattle.rept_found.specs.Single.{writer_at, last_writer, IsOneThread}
use Rattle.rept_found.specs.Telling.{shown_of}

row_there : (rows : List StepRow) (i : ℕ) → i < length rows → is_some (slice_get rows i) ≡ true
row_there rows i less =
    elim (slice_get_cases rows i).1 [
      | inl found ↦ ap is_some found.2
      | inr past ↦ let far = past.0 in absurd (omega arith)
    ]

-- a row leads from each point of a path but the last one
rows_all : (rows : List StepRow) → rows_below (legs_of rows) (length rows) ≡ length rows
rows_all rows = count_full (λ i. is_some (slice_get rows i)) (length rows) (λ i less. row_there rows i less)

-- names of the points and moments of one thread, for all numbers
module _ (rows : List StepRow) where
  abbrev C : Course
  C = course_of (run_of_one rows 0)

  pub point_low : (p : ℕ) → p ≤ length rows → thread_point 0 p ≡ point_on C p
  point_low p few = ap (λ (x : Point). thread_point x.thread x.number) (sym (point_here C rows refl p few))

  pub point_high : (p : ℕ) → length rows < p → thread_point 1 (p - length rows - 1) ≡ point_on C p
  point_high p past =
      let here = past_points C.threads p (omega arith) in
      let left : p - length rows - 1 ≡ p - (suc (length rows) + 0) = omega arith in
      ap (thread_point 1) left ∙ ap (λ (x : Point). thread_point x.thread x.number) (sym here)

  pub place_low : (m : ℕ) → m < length rows → point_named 0 m ≡ place_on C m
  place_low m less = ap (named_on C) (sym (last_low C rows refl m less))

  pub place_high : (m : ℕ) → length rows ≤ m → point_named 0 (length rows) ≡ place_on C m
  place_high m past = ap (named_on C) (sym (last_high C rows refl m past))

  pub place_within : (m : ℕ) → m ≤ length rows → place_on C m ≡ point_named 0 m
  place_within m few =
      elim (cases_lt m (length rows)) [
        | inl less ↦ sym (place_low m less)
        | inr past ↦ let same : length rows ≡ m = omega arith in sym (place_high m past) ∙ ap (point_named 0) same
      ]

-- how the one thread ended
pub first_ended : (e : ThreadEnd) (program : Program) (t : ℕ) → t < 1 → ended_at (record { threads = e ∷ []; program = program }) t ≡ e
first_ended e program zero below = refl
first_ended e program (suc t) below = absurd (omega arith)

-- the greatest step before a point that may write a byte is the last candidate
module _ {W : Type 0} (P : ThreadPath W) (K : Knowledge) (p a : ℕ) where
  abbrev S : Setting W
  S = path_setting P

  before_point : (k : ℕ) → IsCandidate S K (spot p a) k → k < p
  before_point k its = leb-false p k its.reaches

  by_sure : (j : ℕ) → j < p → may_write S K j a ≡ true → ((k : ℕ) → j < k → k < p → may_write S K k a ≡ true → ⊥) → (b : Bool) → is_sure S K j ≡ b → IsWriter S K (spot p a) (cond b (writers.TheVariants.Writes j) (writers.TheVariants.MayWrite j))
  by_sure j less may later = by
    where
      last : Rattle.rept_report.specs.Writers.IsLastCandidate S K (spot p a) j
      last = record {
        one = record { may = may; reaches = lt-leb p j less };
        after = λ k its other.
            let under = before_point k its in
            elim (cases_order k j) [
              | inl same ↦ absurd (other same)
              | inr (inl low) ↦ record { later = lt-ltb k j low; apart = le-ltb j k (omega arith) }
              | inr (inr high) ↦ absurd (later k high under its.may)
            ];
        untraced = λ untraced. absurd (false≢true untraced);
      }

      by : (b : Bool) → is_sure S K j ≡ b → IsWriter S K (spot p a) (cond b (writers.TheVariants.Writes j) (writers.TheVariants.MayWrite j))
      by true sure = (last, and_from (is_sure S K j) (S.moments.past j p) sure (lt-ltb j p less))
      by false sure = (last, and_left (is_sure S K j) (S.moments.past j p) sure)

  below : (j : ℕ) → j ≤ p → ((k : ℕ) → j ≤ k → k < p → may_write S K k a ≡ true → ⊥) → IsWriter S K (spot p a) (last_writer S K j a)
  below zero few none = record { rows = λ k its. none k (omega arith) (before_point k its) its.may; light = refl }
  below (suc j) few none = by (may_write S K j a) refl (λ more. below j (omega arith) more)
    where
      by : (b : Bool) → may_write S K j a ≡ b → (((k : ℕ) → j ≤ k → k < p → may_write S K k a ≡ true → ⊥) → IsWriter S K (spot p a) (last_writer S K j a)) → IsWriter S K (spot p a) (cond b (writer_at S K j) (last_writer S K j a))
      by true may rest = by_sure j (omega arith) may (λ k above under. none k (omega arith) under) (is_sure S K j) refl
      by false spared rest = rest (λ k from under may.
          elim (cases_lt j k) [
            | inl above ↦ none k (omega arith) under may
            | inr back ↦ let same : k ≡ j = omega arith in false≢true (sym spared ∙ ap (λ (i : ℕ). may_write S K i a) (sym same) ∙ may)
          ])

  pub last_writer_is : IsWriter S K (spot p a) (last_writer S K p a)
  last_writer_is = below p (omega arith) (λ k from under may. absurd (omega arith))

  pub found_is : writer_found S K (spot p a) ≡ last_writer S K p a
  found_is = one_writer S K p a (writer_found S K (spot p a)) (last_writer S K p a) (found_fits S K (spot p a) (legs_seen (trip_of P).course)) last_writer_is

pub one_thread_shown : {W : Type 0} (P : ThreadPath W) (K : Knowledge) (scene : Scene) → IsOneThread P K (shown_of P K scene)
one_thread_shown P K scene = record {
  threads = refl;
  rows = refl;
  first = refl;
  points = refl;
  point = λ p few. sym (point_low P.given.rows p few);
  moments = refl;
  moment = λ p few. moment_alone P.given.rows p few;
  place = λ m few. place_within P.given.rows m few;
  writer = λ p a few. found_is P K p a;
  steps = rows_all P.given.rows;
}
