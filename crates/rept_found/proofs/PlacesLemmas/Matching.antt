-- Each number is that of its name, and each name that of its number.
use Rattle.std.proofs.Common.{◌≡◌, ◌≢◌, ℕ, suc, ◌+◌, ◌<◌, ◌≤◌, ◌==◌, if◌then◌else◌, Bool, true, false, List, length, Option, Some, None, slice_get, inl, inr, refl, sym, ap, ◌∙◌, arith, zero-add}
use Rattle.std.proofs.lemmas.Bool.{cases_lt, lt-ltb, le-ltb}
use Rattle.std.proofs.lemmas.Option.{slice_get_cases}
use Rattle.rept_isa.specs.declared.row.StepRow.{StepRow}
use Rattle.rept_steps.specs.declared.threads.ThreadRows.{ThreadRows}
use Rattle.rept_steps.specs.Course.{Course, Row, row_of, rows_of, IsRow, IsSoundCourse}
use Rattle.rept_order.specs.Moments.{Moment, IsMoment, Stretch, stretch, ArePause, AreOne}
use Rattle.rept_order.specs.Moments.Moment.{before, after, at_end}
use Rattle.rept_order.specs.Moments.ArePause.{between, last}
use Rattle.rept_order.specs.Legs.{Point, point_at, number_of}
use Rattle.rept_order.proofs.Legs.{point_number, thread_inside}
use Rattle.rept_report.specs.Moments.{points_of}
use Rattle.rept_moments.specs.Naming.Names.{AreNames}
use Rattle.rept_moments.specs.Naming.Numbered.{legs_on}
use Rattle.rept_moments.specs.Numbers.{numbers_of}
use Rattle.rept_report.specs.Timeline.{moment_by}
use Rattle.rept_moments.specs.Seen.{SeenMoments, seen, seen_by, seen_alone, seen_many, alone_by, moment_in}
use Rattle.rept_moments.proofs.Apart.{are_numbers, no_pause}
use Rattle.rept_findings.specs.declared.place.Place.TheVariants as places
use Rattle.rept_findings.specs.declared.place.ThreadPlace.{ThreadPlace}
use Rattle.rept_findings.specs.declared.place.ThreadPoint.{ThreadPoint}
use Rattle.rept_found.specs.Places.Places.{thread_point, point_named, after_named, point_on, last_by, last_on, end_on, named_on, place_on, place_number}
use Rattle.rept_found.proofs.PlacesLemmas.Naming.{before_number, after_number, last_number, last_of_all}
use Rattle.rept_timeline.proofs.Only.{IsOnly, is_only}

after_same : {q r : Row} → after q ≡ after r → q ≡ r
after_same e = cc

from_end : {r : Row} → at_end ≡ after r → ⊥
from_end e = cc

-- no pause begins at the end
no_pause_at_end : (C : Course) (w : Moment) (x : Stretch) → x ≡ stretch at_end w → ArePause C x → ⊥
no_pause_at_end C w x is (between t i less same) = from_end (ap (λ (y : Stretch). y.from) (sym is ∙ same))
no_pause_at_end C w x is (last t i all same) = from_end (ap (λ (y : Stretch). y.from) (sym is ∙ same))

moment_alone : (rows : List StepRow) (p : ℕ) → p ≤ length rows → moment_in (seen_alone rows) p ≡ p
moment_alone rows p few =
    elim (slice_get_cases rows p).1 [
      | inl found ↦ ap (λ (o : Option StepRow). moment_by (points_of (length rows)) o p) found.2
      | inr past ↦ ap (λ (o : Option StepRow). moment_by (points_of (length rows)) o p) past.1 ∙ (let far = past.0 in omega arith)
    ]

module _ (C : Course) where
  pub points : (t p : ℕ) → t < length C.threads → p ≤ length (rows_of C t) → point_on C (number_of C t p) ≡ thread_point t p
  points t p below few = ap (λ (x : Point). thread_point x.thread x.number) (point_number C t p below few)

  -- of one thread in one slice, all of which is told
  module _ (rows : List StepRow) (e : alone_by C.threads C.untraced ≡ Some rows) where
    one : IsOnly C.threads rows
    one = is_only C.threads C.untraced rows e

    seen_one : seen C ≡ seen_alone rows
    seen_one = ap (seen_by C) e

    last_one : (m : ℕ) → last_on C m ≡ last_by C (Some rows) m
    last_one m = ap (λ (o : Option (List StepRow)). last_by C o m) e

    place_low : (m : ℕ) → m < length rows → place_on C m ≡ point_named 0 m
    place_low m less =
        let here : last_by C (Some rows) m ≡ before (row_of 0 m) = rw (lt-ltb m (length rows) less) refl in
        ap (named_on C) (last_one m ∙ here)

    place_high : (m : ℕ) → length rows ≤ m → place_on C m ≡ end_on C
    place_high m past =
        let here : last_by C (Some rows) m ≡ at_end = rw (le-ltb m (length rows) past) refl in
        ap (named_on C) (last_one m ∙ here)

    end_one : end_on C ≡ point_named 0 (length rows)
    end_one =
        ap (λ (threads : List ThreadRows). if length threads == 1 then point_named 0 (seen C).legs.count else record { thread = 0; place = places.End }) one.is
        ∙ ap (λ (x : SeenMoments). point_named 0 x.legs.count) seen_one

    moment_one : (p : ℕ) → p ≤ length rows → moment_in (seen C) (number_of C 0 p) ≡ p
    moment_one p few = ap (λ (x : SeenMoments). moment_in x (number_of C 0 p)) seen_one ∙ ap (moment_in (seen_alone rows)) (zero-add p) ∙ moment_alone rows p few

    -- its only thread is the first one, and has these rows
    thread_one : (t : ℕ) → t < length C.threads → t ≡ 0
    thread_one t below = let count = ap (λ (xs : List ThreadRows). length xs) one.is in omega arith

    rows_one : rows_of C 0 ≡ rows
    rows_one = ap (λ (xs : List ThreadRows). rows_of (record { threads = xs; untraced = None }) 0) one.is ∙ one.own

    moments_one : (m : ℕ) → m ≤ (seen C).moments.end → place_number C (place_on C m) ≡ m
    moments_one m few =
        let end : (seen C).moments.end ≡ length rows = ap (λ (x : SeenMoments). x.moments.end) seen_one in
        elim (cases_lt m (length rows)) [
          | inl less ↦ ap (place_number C) (place_low m less) ∙ moment_one m (omega arith)
          | inr past ↦
              let same : length rows ≡ m = omega arith in
              ap (place_number C) (place_high m past ∙ end_one) ∙ moment_one (length rows) (omega arith) ∙ same
        ]

    before_one : (t i : ℕ) → i < length (rows_of C t) → place_on C (place_number C (point_named t i)) ≡ point_named t i
    before_one t i is =
        let first = thread_one t (thread_inside C (row_of t i) is) in
        let own : length (rows_of C t) ≡ length rows = ap (λ (k : ℕ). length (rows_of C k)) first ∙ ap (λ (xs : List StepRow). length xs) rows_one in
        let here : place_number C (point_named t i) ≡ i = ap (λ (k : ℕ). place_number C (point_named k i)) first ∙ moment_one i (omega arith) in
        ap (place_on C) here ∙ place_low i (omega arith) ∙ ap (λ (k : ℕ). point_named k i) (sym first)

    -- the moment after a row is that at its thread's next point
    after_one : (t i : ℕ) → i < length (rows_of C t) → place_number C (after_named t i) ≡ moment_in (seen C) (number_of C t i + 1)
    after_one t i is =
        let first = thread_one t (thread_inside C (row_of t i) is) in
        let own : length (rows_of C t) ≡ length rows = ap (λ (k : ℕ). length (rows_of C k)) first ∙ ap (λ (xs : List StepRow). length xs) rows_one in
        let number : number_of C t i ≡ i = ap (λ (k : ℕ). number_of C k i) first ∙ zero-add i in
        ap (λ (x : SeenMoments). x.moments.after (number_of C t i)) seen_one
        ∙ ap (λ (k : ℕ). k + 1) number
        ∙ sym (moment_alone rows (i + 1) (omega arith))
        ∙ ap (λ (k : ℕ). moment_in (seen_alone rows) (k + 1)) (sym number)
        ∙ ap (λ (x : SeenMoments). moment_in x (number_of C t i + 1)) (sym seen_one)

    end_is_one : place_on C (seen C).moments.end ≡ end_on C
    end_is_one =
        let end : (seen C).moments.end ≡ length rows = ap (λ (x : SeenMoments). x.moments.end) seen_one in
        place_high (seen C).moments.end (omega arith)

    last_point_one : (t : ℕ) → t < length C.threads → place_number C (point_named t (length (rows_of C t))) ≡ (seen C).moments.end
    last_point_one t below =
        ap (λ (k : ℕ). place_number C (point_named k (length (rows_of C k)))) (thread_one t below)
        ∙ ap (λ (xs : List StepRow). place_number C (point_named 0 (length xs))) rows_one
        ∙ moment_one (length rows) (omega arith)
        ∙ ap (λ (x : SeenMoments). x.moments.end) (sym seen_one)

  -- of any other run
  module _ (e : alone_by C.threads C.untraced ≡ None) where
    seen_more : seen C ≡ seen_many C
    seen_more = ap (seen_by C) e

    last_more : (m : ℕ) → last_on C m ≡ (numbers_of C).last m
    last_more m = ap (λ (o : Option (List StepRow)). last_by C o m) e

    end_number_by : (several : Bool) → place_number C (if several then point_named 0 (seen C).legs.count else record { thread = 0; place = places.End }) ≡ (numbers_of C).end
    end_number_by true =
        ap (λ (x : SeenMoments). moment_in x (number_of C 0 x.legs.count)) seen_more
        ∙ last_of_all C (number_of C 0 (legs_on C).count) (omega arith)
    end_number_by false = ap (λ (x : SeenMoments). x.moments.end) seen_more

    end_number : place_number C (end_on C) ≡ (numbers_of C).end
    end_number = end_number_by (length C.threads == 1)

    module _ (sound : IsSoundCourse C) where
      names : AreNames C (numbers_of C)
      names = are_numbers C sound

      number_named : (x : Moment) → IsMoment C x → place_number C (named_on C x) ≡ (numbers_of C).name x
      number_named (before r) is = ap (λ (x : SeenMoments). moment_in x (number_of C r.thread r.step)) seen_more ∙ before_number C r.thread r.step is
      number_named (after r) is = ap (λ (x : SeenMoments). x.moments.after (number_of C r.thread r.step)) seen_more ∙ after_number C r.thread r.step is
      number_named at_end is = end_number ∙ sym names.end

      moments_more : (m : ℕ) → m ≤ (seen C).moments.end → place_number C (place_on C m) ≡ m
      moments_more m few =
          let end : (seen C).moments.end ≡ (numbers_of C).end = ap (λ (x : SeenMoments). x.moments.end) seen_more in
          let its = names.named m (omega arith) in
          ap (λ (x : Moment). place_number C (named_on C x)) (last_more m) ∙ number_named ((numbers_of C).last m) its.0 ∙ its.1

      -- a moment that is the last of those that have its number is named by itself
      named_last : (x : Moment) → IsMoment C x → x ≡ (numbers_of C).last ((numbers_of C).name x) → place_on C (place_number C (named_on C x)) ≡ named_on C x
      named_last x is own = ap (place_on C) (number_named x is) ∙ ap (named_on C) (last_more ((numbers_of C).name x) ∙ sym own)

      before_more : (t i : ℕ) → i < length (rows_of C t) → place_on C (place_number C (point_named t i)) ≡ point_named t i
      before_more t i is =
          elim (names.own (before (row_of t i)) is) [
            | inl own ↦ named_last (before (row_of t i)) is own
            | inr same ↦ absurd (no_pause C (row_of t i) ((numbers_of C).last ((numbers_of C).name (before (row_of t i)))) _ refl same.pause)
          ]

      -- a pause that is one moment leads to the thread's next point
      pause_ends : (t i : ℕ) → i < length (rows_of C t) → (w : Moment) (x : Stretch) → x ≡ stretch (after (row_of t i)) w → ArePause C x → (numbers_of C).name w ≡ moment_in (seen C) (number_of C t i + 1)
      pause_ends t i is w x same (between u k less e) =
          let row : row_of t i ≡ row_of u k = after_same (ap (λ (y : Stretch). y.from) (sym same ∙ e)) in
          let to : w ≡ before (row_of u (suc k)) = ap (λ (y : Stretch). y.to) (sym same ∙ e) in
          let here : number_of C u (suc k) ≡ number_of C t i + 1 = let next : number_of C u (suc k) ≡ number_of C u k + 1 = omega arith in next ∙ ap (λ (r : Row). number_of C r.thread r.step + 1) (sym row) in
          ap (numbers_of C).name to ∙ sym (before_number C u (suc k) less) ∙ ap (λ (x : SeenMoments). moment_in x (number_of C u (suc k))) (sym seen_more) ∙ ap (moment_in (seen C)) here
      pause_ends t i is w x same (last u k all e) =
          let row : row_of t i ≡ row_of u k = after_same (ap (λ (y : Stretch). y.from) (sym same ∙ e)) in
          let to : w ≡ at_end = ap (λ (y : Stretch). y.to) (sym same ∙ e) in
          let below = thread_inside C (row_of u k) (omega arith) in
          let here : number_of C u (length (rows_of C u)) ≡ number_of C t i + 1 = let next : number_of C u (length (rows_of C u)) ≡ number_of C u k + 1 = omega arith in next ∙ ap (λ (r : Row). number_of C r.thread r.step + 1) (sym row) in
          ap (numbers_of C).name to ∙ names.end ∙ sym (last_number C u below) ∙ ap (λ (x : SeenMoments). moment_in x (number_of C u (length (rows_of C u)))) (sym seen_more) ∙ ap (moment_in (seen C)) here

      after_more : (t i : ℕ) → i < length (rows_of C t) → place_number C (after_named t i) ≢ moment_in (seen C) (number_of C t i + 1) → place_on C (place_number C (after_named t i)) ≡ after_named t i
      after_more t i is other =
          elim (names.own (after (row_of t i)) is) [
            | inl own ↦ named_last (after (row_of t i)) is own
            | inr same ↦ absurd (other (number_named (after (row_of t i)) is ∙ names.one _ same ∙ pause_ends t i is ((numbers_of C).last ((numbers_of C).name (after (row_of t i)))) _ refl same.pause))
          ]

      end_is_more : place_on C (seen C).moments.end ≡ end_on C
      end_is_more =
          elim (names.own at_end tt) [
            | inl own ↦ ap (named_on C) (last_more (seen C).moments.end ∙ ap (numbers_of C).last (ap (λ (x : SeenMoments). x.moments.end) seen_more ∙ sym names.end) ∙ sym own)
            | inr same ↦ absurd (no_pause_at_end C ((numbers_of C).last ((numbers_of C).name at_end)) _ refl same.pause)
          ]

    last_point_more : (t : ℕ) → t < length C.threads → place_number C (point_named t (length (rows_of C t))) ≡ (seen C).moments.end
    last_point_more t below =
        ap (λ (x : SeenMoments). moment_in x (number_of C t (length (rows_of C t)))) seen_more
        ∙ last_number C t below
        ∙ ap (λ (x : SeenMoments). x.moments.end) (sym seen_more)

  pub moments : IsSoundCourse C → (m : ℕ) → m ≤ (seen C).moments.end → place_number C (place_on C m) ≡ m
  moments sound m few = by_alone (alone_by C.threads C.untraced) refl
    where
      by_alone : (o : Option (List StepRow)) → alone_by C.threads C.untraced ≡ o → place_number C (place_on C m) ≡ m
      by_alone (Some rows) e = moments_one rows e m few
      by_alone None e = moments_more e sound m few

  pub before_rows : IsSoundCourse C → (t i : ℕ) → i < length (rows_of C t) → place_on C (place_number C (point_named t i)) ≡ point_named t i
  before_rows sound t i is = by_alone (alone_by C.threads C.untraced) refl
    where
      by_alone : (o : Option (List StepRow)) → alone_by C.threads C.untraced ≡ o → place_on C (place_number C (point_named t i)) ≡ point_named t i
      by_alone (Some rows) e = before_one rows e t i is
      by_alone None e = before_more e sound t i is

  pub after_rows : IsSoundCourse C → (t i : ℕ) → i < length (rows_of C t) → place_number C (after_named t i) ≢ moment_in (seen C) (number_of C t i + 1) → place_on C (place_number C (after_named t i)) ≡ after_named t i
  after_rows sound t i is other = by_alone (alone_by C.threads C.untraced) refl
    where
      by_alone : (o : Option (List StepRow)) → alone_by C.threads C.untraced ≡ o → place_on C (place_number C (after_named t i)) ≡ after_named t i
      by_alone (Some rows) e = absurd (other (after_one rows e t i is))
      by_alone None e = after_more e sound t i is other

  pub ends : IsSoundCourse C → place_on C (seen C).moments.end ≡ end_on C
  ends sound = by_alone (alone_by C.threads C.untraced) refl
    where
      by_alone : (o : Option (List StepRow)) → alone_by C.threads C.untraced ≡ o → place_on C (seen C).moments.end ≡ end_on C
      by_alone (Some rows) e = end_is_one rows e
      by_alone None e = end_is_more e sound

  pub last_points : (t : ℕ) → t < length C.threads → place_number C (point_named t (length (rows_of C t))) ≡ (seen C).moments.end
  last_points t below = by_alone (alone_by C.threads C.untraced) refl
    where
      by_alone : (o : Option (List StepRow)) → alone_by C.threads C.untraced ≡ o → place_number C (point_named t (length (rows_of C t))) ≡ (seen C).moments.end
      by_alone (Some rows) e = last_point_one rows e t below
      by_alone None e = last_point_more e t below
