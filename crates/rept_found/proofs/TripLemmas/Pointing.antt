-- The moments at the points of one thread, in order, and the rows that lie after them.
use Rattle.std.proofs.Common.{◌≡◌, ℕ, ◌<◌, ◌≤◌, true, false, List, length, Option, Some, None, inl, inr, refl, sym, ap, ◌∙◌, subst, arith, zero-add}
use Rattle.std.proofs.lemmas.Bool.{false≢true, cases_lt, cases_order, lt-ltb, le-ltb, false_from_ne_true}
use Rattle.rept_isa.specs.declared.row.StepRow.{StepRow}
use Rattle.rept_steps.specs.Course.{Course, Row, row_of, rows_of, IsRow, IsSoundCourse}
use Rattle.rept_order.specs.Events.{first_event, PrecedesOrIs}
use Rattle.rept_order.specs.Events.IsBefore.{by_row}
use Rattle.rept_order.specs.Moments.{Moment, NotLater, WhollyAfter}
use Rattle.rept_order.specs.Moments.Moment.{before, after, at_end}
use Rattle.rept_order.specs.Moments.Act.{row}
use Rattle.rept_order.specs.Points.{moment_of_point}
use Rattle.rept_order.specs.Legs.{number_of}
use Rattle.rept_order.proofs.Sequence.{first_is_event, directly, or_after, not_later_trans}
use Rattle.rept_order.proofs.Times.{precedes_irreflexive}
use Rattle.rept_moments.specs.Naming.Names.{AreNames}
use Rattle.rept_moments.specs.Naming.Numbered.{row_on}
use Rattle.rept_moments.proofs.NamingLemmas.Naming.{last_end, row_inside}
use Rattle.rept_moments.specs.Numbers.{numbers_of}
use Rattle.rept_moments.specs.Seen.{seen, seen_by, seen_alone, alone_by, moment_in}
use Rattle.rept_moments.proofs.Apart.{are_numbers, no_pause}
use Rattle.rept_found.specs.Places.Places.{last_by}
use Rattle.rept_found.proofs.PlacesLemmas.Naming.{before_number, last_number}
use Rattle.rept_reason.specs.Facts.{Knowledge}
use Rattle.rept_report.specs.Setting.{Setting}
use Rattle.rept_report.specs.Spots.{spot}
use Rattle.rept_report.specs.Views.{registers_at, touched_by, may_write}
use Rattle.rept_report.specs.Writers.{IsCandidate, IsLastCandidate, HasNoCandidate}
use Rattle.rept_found.specs.Trip.Trip.{Trip, setting_on}
use Rattle.rept_found.proofs.TripLemmas.Single.{one_thread, count_is, last_low, last_high, moment_alone}
use Rattle.rept_found.proofs.TripLemmas.Telling.{IsTold, told_by}

-- it is within, and its last moment is that of the thread's point
pub record IsAtPoint (C : Course) (o : Option (List StepRow)) (t p m : ℕ) : Type 0 where
  pub within : m ≤ (seen_by C o).moments.end
  pub moment : last_by C o m ≡ moment_of_point C t p

pub moment_inside : (C : Course) (t p : ℕ) → p < length (rows_of C t) → moment_of_point C t p ≡ before (row_of t p)
moment_inside C t p inside = rw (lt-ltb p (length (rows_of C t)) inside) refl

pub moment_last : (C : Course) (t p : ℕ) → length (rows_of C t) ≤ p → moment_of_point C t p ≡ at_end
moment_last C t p past = rw (le-ltb p (length (rows_of C t)) past) refl

module _ (C : Course) (sound : IsSoundCourse C) where
  names : AreNames C (numbers_of C)
  names = are_numbers C sound

  -- of a moment before a row no other one is the last that has its number
  before_last : (r : Row) → IsRow C r → (numbers_of C).last ((numbers_of C).name (before r)) ≡ before r
  before_last r is =
      elim (names.own (before r) is) [
        | inl own ↦ sym own
        | inr same ↦ absurd (no_pause C r ((numbers_of C).last ((numbers_of C).name (before r))) _ refl same.pause)
      ]

  at_many : (t p : ℕ) → t < length C.threads → p ≤ length (rows_of C t) → IsAtPoint C None t p (moment_in (seen_by C None) (number_of C t p))
  at_many t p below few =
      elim (cases_lt p (length (rows_of C t))) [
        | inl inside ↦
            let at : moment_in (seen_by C None) (number_of C t p) ≡ (numbers_of C).name (before (row_of t p)) = before_number C t p inside in
            let most = names.few (before (row_of t p)) inside in
            record { within = omega arith; moment = ap (numbers_of C).last at ∙ before_last (row_of t p) inside ∙ sym (moment_inside C t p inside) }
        | inr past ↦
            let final : p ≡ length (rows_of C t) = omega arith in
            let at : moment_in (seen_by C None) (number_of C t p) ≡ (numbers_of C).end = ap (λ (k : ℕ). moment_in (seen_by C None) (number_of C t k)) final ∙ last_number C t below in
            record { within = omega arith; moment = ap (numbers_of C).last at ∙ last_end C sound (numbers_of C) names ∙ sym (moment_last C t p past) }
      ]

  module _ (rows : List StepRow) (e : alone_by C.threads C.untraced ≡ Some rows) where
    at_first : (p : ℕ) → p ≤ length rows → IsAtPoint C (Some rows) 0 p (moment_in (seen_by C (Some rows)) (number_of C 0 p))
    at_first p few =
        let at : moment_in (seen_by C (Some rows)) (number_of C 0 p) ≡ p = ap (moment_in (seen_alone rows)) (zero-add p) ∙ moment_alone rows p few in
        let all = count_is C rows e in
        record {
          within = omega arith;
          moment = ap (last_by C (Some rows)) at ∙ elim (cases_lt p (length rows)) as (λ _. last_by C (Some rows) p ≡ moment_of_point C 0 p) [
            | inl less ↦ last_low C rows e p less ∙ sym (moment_inside C 0 p (omega arith))
            | inr past ↦ last_high C rows e p past ∙ sym (moment_last C 0 p (omega arith))
          ];
        }

    at_single : (t p : ℕ) → t < length C.threads → p ≤ length (rows_of C t) → IsAtPoint C (Some rows) t p (moment_in (seen_by C (Some rows)) (number_of C t p))
    at_single t p below few =
        let threads = one_thread C rows e in
        let first : 0 ≡ t = omega arith in
        let all = count_is C rows e in
        let early : p ≤ length (rows_of C 0) = subst (λ (k : ℕ). p ≤ length (rows_of C k)) (sym first) few in
        subst (λ (k : ℕ). IsAtPoint C (Some rows) k p (moment_in (seen_by C (Some rows)) (number_of C k p))) first (at_first p (omega arith))

  at_by : (o : Option (List StepRow)) → alone_by C.threads C.untraced ≡ o → (t p : ℕ) → t < length C.threads → p ≤ length (rows_of C t) → IsAtPoint C o t p (moment_in (seen_by C o) (number_of C t p))
  at_by (Some rows) e t p below few = at_single rows e t p below few
  at_by None e t p below few = at_many t p below few

  pub at_point : (t p : ℕ) → t < length C.threads → p ≤ length (rows_of C t) → IsAtPoint C (alone_by C.threads C.untraced) t p (moment_in (seen C) (number_of C t p))
  at_point t p below few = at_by (alone_by C.threads C.untraced) refl t p below few

  -- a point is no later than a later one
  begun : (t q p : ℕ) → q < length (rows_of C t) → p < length (rows_of C t) → q ≤ p → PrecedesOrIs C (first_event C (row_of t q)) (first_event C (row_of t p))
  begun t q p here there few =
      elim (cases_order q p) [
        | inl same ↦ inl (ap (λ (i : ℕ). first_event C (row_of t i)) same)
        | inr (inl less) ↦ inr (directly C _ _ (record { first = first_is_event C (row_of t q) here; second = first_is_event C (row_of t p) there; why = by_row refl less }))
        | inr (inr more) ↦ absurd (omega arith)
      ]

  before_end : (m : Moment) → m ≡ at_end → (w : Moment) → NotLater C w m
  before_end m e (before r) = subst (λ (y : Moment). NotLater C (before r) y) (sym e) tt
  before_end m e (after r) = subst (λ (y : Moment). NotLater C (after r) y) (sym e) tt
  before_end m e at_end = subst (λ (y : Moment). NotLater C at_end y) (sym e) tt

  in_order : (t q p : ℕ) → q ≤ p → p ≤ length (rows_of C t) → NotLater C (moment_of_point C t q) (moment_of_point C t p)
  in_order t q p few most =
      elim (cases_lt p (length (rows_of C t))) [
        | inr past ↦ before_end (moment_of_point C t p) (moment_last C t p past) (moment_of_point C t q)
        | inl inside ↦
            let here : q < length (rows_of C t) = omega arith in
            subst (λ (m : Moment). NotLater C m (moment_of_point C t p)) (sym (moment_inside C t q here)) (subst (λ (m : Moment). NotLater C (before (row_of t q)) m) (sym (moment_inside C t p inside)) (begun t q p here inside few))
      ]

-- rows that lie wholly after the moment at a point of a thread
module _ {W : Type 0} (trip : Trip W) (sound : IsSoundCourse trip.course) (t : ℕ) (below : t < length trip.course.threads) where
  abbrev C : Course
  C = trip.course

  abbrev S : Setting W
  S = setting_on trip

  abbrev n : ℕ
  n = length (rows_of trip.course t)

  abbrev at : ℕ → ℕ
  at p = moment_in (seen trip.course) (number_of trip.course t p)

  told : IsTold C (seen_by C (alone_by C.threads C.untraced)) (last_by C (alone_by C.threads C.untraced))
  told = told_by C sound (alone_by C.threads C.untraced) refl

  is_at : (p : ℕ) → p ≤ n → IsAtPoint C (alone_by C.threads C.untraced) t p (at p)
  is_at p few = at_point C sound t p below few

  way_of : (p k : ℕ) → p ≤ n → IsRow C (row_on C k) → S.moments.ahead k (at p) ≡ true → NotLater C (moment_of_point C t p) (before (row_on C k))
  way_of p k few is e = subst (λ (m : Moment). WhollyAfter C (row (row_on C k)) m) (is_at p few).moment (told.ahead k (at p) (is_at p few).within is e)

  of_way : (p k : ℕ) → p ≤ n → IsRow C (row_on C k) → NotLater C (moment_of_point C t p) (before (row_on C k)) → S.moments.ahead k (at p) ≡ true
  of_way p k few is h = told.ahead_from k (at p) (is_at p few).within is (subst (λ (m : Moment). WhollyAfter C (row (row_on C k)) m) (sym (is_at p few).moment) h)

  -- what lies wholly after a point lies so after each earlier one
  ahead_back : (q p k : ℕ) → q ≤ p → p ≤ n → IsRow C (row_on C k) → S.moments.ahead k (at p) ≡ true → S.moments.ahead k (at q) ≡ true
  ahead_back q p k few most is e = of_way q k (omega arith) is (not_later_trans C (moment_of_point C t q) (moment_of_point C t p) (before (row_on C k)) (in_order C sound t q p few most) (way_of p k most is e))

  may_row : (K : Knowledge) (i a : ℕ) → may_write S K i a ≡ true → IsRow C (row_on C i)
  may_row K i a may = by (S.legs.row i) refl
    where
      by : (o : Option StepRow) → S.legs.row i ≡ o → IsRow C (row_on C i)
      by (Some its_row) is = row_inside C (row_on C i) its_row (told.there i its_row is)
      by None is = absurd (false≢true (sym (ap (λ (o : Option StepRow). touched_by S o (registers_at S K i) a) is) ∙ may))

  -- a row of the thread lies wholly after each point up to its own, and after no later one
  pub own_ahead : (p k : ℕ) → p ≤ n → IsRow C (row_on C k) → (row_on C k).thread ≡ t → p ≤ (row_on C k).step → S.moments.ahead k (at p) ≡ true
  own_ahead p k few is own late =
      let here : (row_on C k).step < n = subst (λ (u : ℕ). (row_on C k).step < length (rows_of C u)) own is in
      let same : row_of t (row_on C k).step ≡ row_on C k = ap (λ (u : ℕ). row_of u (row_on C k).step) (sym own) in
      let order : NotLater C (before (row_of t p)) (before (row_of t (row_on C k).step)) = begun C sound t p (row_on C k).step (omega arith) here late in
      of_way p k few is (subst (λ (m : Moment). NotLater C m (before (row_on C k))) (sym (moment_inside C t p (omega arith))) (subst (λ (r : Row). NotLater C (before (row_of t p)) (before r)) same order))

  pub own_not_ahead : (p k : ℕ) → p ≤ n → IsRow C (row_on C k) → (row_on C k).thread ≡ t → (row_on C k).step < p → S.moments.ahead k (at p) ≡ false
  own_not_ahead p k few is own early = false_from_ne_true (S.moments.ahead k (at p)) (λ e. never (way_of p k few is e))
    where
      here : (row_on C k).step < n
      here = subst (λ (u : ℕ). (row_on C k).step < length (rows_of C u)) own is

      same : row_on C k ≡ row_of t (row_on C k).step
      same = ap (λ (u : ℕ). row_of u (row_on C k).step) own

      never : NotLater C (moment_of_point C t p) (before (row_on C k)) → ⊥
      never h =
          elim (cases_lt p n) [
            | inr past ↦ subst (λ (m : Moment). NotLater C m (before (row_on C k))) (moment_last C t p past) h
            | inl inside ↦
                let from : NotLater C (before (row_of t p)) (before (row_on C k)) = subst (λ (m : Moment). NotLater C m (before (row_on C k))) (moment_inside C t p inside) h in
                let back : PrecedesOrIs C (first_event C (row_of t p)) (first_event C (row_of t (row_on C k).step)) = subst (λ (r : Row). NotLater C (before (row_of t p)) (before r)) same from in
                precedes_irreflexive C sound (first_event C (row_of t (row_on C k).step)) (or_after C _ _ _ (directly C _ _ (record { first = first_is_event C (row_of t (row_on C k).step) here; second = first_is_event C (row_of t p) inside; why = by_row refl early })) back)
          ]

  module _ (K : Knowledge) (a : ℕ) where
    pub candidate_row : (p j : ℕ) → IsCandidate S K (spot (at p) a) j → IsRow C (row_on C j)
    candidate_row p j its = may_row K j a its.may

    -- a candidate at a point is one at each later point
    pub candidate_on : (q p k : ℕ) → q ≤ p → p ≤ n → IsCandidate S K (spot (at q) a) k → IsCandidate S K (spot (at p) a) k
    candidate_on q p k few most its = record {
      may = its.may;
      reaches = false_from_ne_true (S.moments.ahead k (at p)) (λ e. false≢true (sym its.reaches ∙ ahead_back q p k few most (may_row K k a its.may) e));
    }

    -- so the last candidate at a point is the last at each earlier one at which it is a candidate
    pub last_back : (q p j : ℕ) → q ≤ p → p ≤ n → IsLastCandidate S K (spot (at p) a) j → S.moments.ahead j (at q) ≡ false → IsLastCandidate S K (spot (at q) a) j
    last_back q p j few most final reaches = record {
      one = record { may = final.one.may; reaches = reaches };
      after = λ k its other. final.after k (candidate_on q p k few most its) other;
      untraced = final.untraced;
    }

    pub none_back : (q p : ℕ) → q ≤ p → p ≤ n → HasNoCandidate S K (spot (at p) a) → HasNoCandidate S K (spot (at q) a)
    none_back q p few most none = record { rows = λ k its. none.rows k (candidate_on q p k few most its); light = none.light }
