-- What rows and moments say of the order of a run, as an analysis takes them.
use Rattle.std.proofs.Common.{◌≡◌, ℕ, ◌+◌, ◌<◌, ◌≤◌, ◌||◌, not, Bool, true, List, length, Option, Some, None, slice_get, inl, inr, refl, sym, ap, ◌∙◌, subst, arith, zero-add}
use Rattle.std.specs.Option.{is_some}
use Rattle.std.proofs.lemmas.Bool.{false≢true, cases_lt, cases_order, or_cases, not-true, ltb-true, le-leb, leb-true}
use Rattle.std.proofs.lemmas.Option.{slice_get_within}
use Rattle.rept_isa.specs.declared.row.StepRow.{StepRow}
use Rattle.rept_steps.specs.Course.{Course, Row, row_of, IsRow, row_at, IsSoundCourse}
use Rattle.rept_order.specs.Events.{first_event, last_event, Precedes, PrecedesOrIs}
use Rattle.rept_order.specs.Events.IsBefore.{by_row}
use Rattle.rept_order.specs.Moments.{Moment, IsMoment, IsAct, WhollyBefore, WhollyAfter, stores}
use Rattle.rept_order.specs.Moments.Moment.{before}
use Rattle.rept_order.specs.Moments.Act.{row, untraced}
use Rattle.rept_order.specs.Times.{wholly_before}
use Rattle.rept_order.specs.Legs.{number_of, point_at, row_from}
use Rattle.rept_order.specs.Interleaved.{leg_of}
use Rattle.rept_order.proofs.Sequence.{first_is_event, last_is_event, directly, or_after}
use Rattle.rept_order.proofs.Times.{precedes_irreflexive}
use Rattle.rept_order.proofs.Acting.{before_true, after_true, after_from}
use Rattle.rept_order.proofs.Legs.{number_point, point_number, thread_inside}
use Rattle.rept_moments.specs.Naming.Names.{AreNames}
use Rattle.rept_moments.specs.Naming.Numbered.{row_on}
use Rattle.rept_moments.proofs.NamingLemmas.Naming.{row_inside}
use Rattle.rept_moments.specs.Numbers.{numbers_of}
use Rattle.rept_moments.specs.Seen.{SeenMoments, seen_by, alone_by}
use Rattle.rept_moments.proofs.Apart.{are_numbers}
use Rattle.rept_found.specs.Places.Places.{last_by}
use Rattle.rept_found.proofs.TripLemmas.Single.{is_alone, rows_are, row_here, is_row, own_row, last_low, last_high, is_moment}

-- These rows and moments are those of the run, and of each number this is the last of its moments:
-- rows are those of their points, and what is said of a row that lies wholly before another one,
-- before a moment, or after one, is so by the order.
pub record IsTold (C : Course) (x : SeenMoments) (last : ℕ → Moment) : Type 0 where
  pub there : (i : ℕ) (its_row : StepRow) → x.legs.row i ≡ Some its_row → row_at C (row_on C i) ≡ Some its_row
  pub here : (r : Row) (its_row : StepRow) → row_at C r ≡ Some its_row → x.legs.row (leg_of C r) ≡ Some its_row
  pub moment : (m : ℕ) → m ≤ x.moments.end → IsMoment C (last m)
  pub later : (j k : ℕ) → IsRow C (row_on C j) → IsRow C (row_on C k) → x.moments.later j k ≡ true → WhollyBefore C (row (row_on C k)) (before (row_on C j))
  pub past : (j m : ℕ) → m ≤ x.moments.end → IsRow C (row_on C j) → stores C (row_on C j) ≡ true → x.moments.past j m ≡ true → WhollyBefore C (row (row_on C j)) (last m)
  pub ahead : (k m : ℕ) → m ≤ x.moments.end → IsRow C (row_on C k) → x.moments.ahead k m ≡ true → WhollyAfter C (row (row_on C k)) (last m)
  pub ahead_from : (k m : ℕ) → m ≤ x.moments.end → IsRow C (row_on C k) → WhollyAfter C (row (row_on C k)) (last m) → x.moments.ahead k m ≡ true
  pub is_untraced : IsAct C untraced → x.moments.is_untraced ≡ true
  pub untraced_before : (j : ℕ) → IsAct C untraced → IsRow C (row_on C j) → x.moments.untraced_before j ≡ true → WhollyBefore C untraced (before (row_on C j))

-- the row at the number of its point
pub same_leg : (C : Course) (r : Row) → IsRow C r → row_on C (leg_of C r) ≡ r
same_leg C r is = ap row_from (point_number C r.thread r.step (thread_inside C r is) (omega arith))

none_number : {d : ℕ} → None ≡ Some d → ⊥
none_number e = cc

module _ (C : Course) (sound : IsSoundCourse C) where
  names : AreNames C (numbers_of C)
  names = are_numbers C sound

  stores_past : (b c : Bool) → b ≡ true → (not b || c) ≡ true → c ≡ true
  stores_past b c t e =
      elim (or_cases (not b) c e) [
        | inl none ↦ absurd (false≢true (sym (not-true b none) ∙ t))
        | inr some ↦ some
      ]

  -- by numbers, of any run
  told_many : IsTold C (seen_by C None) (last_by C None)
  told_many = record {
    there = λ i its_row e. e;
    here = λ r its_row e. ap (row_at C) (same_leg C r (row_inside C r its_row e)) ∙ e;
    moment = λ m few. (names.named m few).0;
    later = λ j k is its e. before_true C sound (row (row_on C k)) (before (row_on C j)) its is e;
    past = λ j m few is some e. before_true C sound (row (row_on C j)) ((numbers_of C).last m) is (names.named m few).0 (stores_past (stores C (row_on C j)) (wholly_before C (row (row_on C j)) ((numbers_of C).last m)) some e);
    ahead = λ k m few is e. after_true C sound (row (row_on C k)) ((numbers_of C).last m) is (names.named m few).0 e;
    ahead_from = λ k m few is h. after_from C sound (row (row_on C k)) ((numbers_of C).last m) h;
    is_untraced = λ is. ap is_some is.1;
    untraced_before = λ j is its e. before_true C sound untraced (before (row_on C j)) is its (stores_past (is_some C.untraced) (wholly_before C untraced (before (row_on C j))) (ap is_some is.1) e);
  }

  -- by points, of one thread in one slice, all of which is told
  module _ (rows : List StepRow) (e : alone_by C.threads C.untraced ≡ Some rows) where
    no_untraced : IsAct C untraced → ⊥
    no_untraced is = none_number (sym (is_alone C rows e).told ∙ is.1)

    row_low : (j : ℕ) → IsRow C (row_on C j) → j < length rows
    row_low j is =
        let own = own_row C rows e (row_on C j) is in
        let low : (point_at C j).number < length rows = own.1 in
        let same : number_of C (point_at C j).thread (point_at C j).number ≡ 0 + (point_at C j).number = ap (λ (r : Row). number_of C r.thread r.step) own.0 in
        let here = number_point C j in
        omega arith

    earlier : (k j : ℕ) → k < j → j < length rows → Precedes C (last_event C (row_of 0 k)) (first_event C (row_of 0 j))
    earlier k j less low = directly C _ _ (record { first = last_is_event C (row_of 0 k) (is_row C rows e k (omega arith)); second = first_is_event C (row_of 0 j) (is_row C rows e j low); why = by_row refl less })

    begun : (k j : ℕ) → k < j → j < length rows → Precedes C (first_event C (row_of 0 k)) (first_event C (row_of 0 j))
    begun k j less low = directly C _ _ (record { first = first_is_event C (row_of 0 k) (is_row C rows e k (omega arith)); second = first_is_event C (row_of 0 j) (is_row C rows e j low); why = by_row refl less })

    no_earlier : (k j : ℕ) → j ≤ k → k < length rows → PrecedesOrIs C (first_event C (row_of 0 j)) (first_event C (row_of 0 k))
    no_earlier k j few low =
        elim (cases_order j k) [
          | inl same ↦ inl (ap (λ (i : ℕ). first_event C (row_of 0 i)) same)
          | inr (inl less) ↦ inr (begun j k less low)
          | inr (inr more) ↦ absurd (omega arith)
        ]

    there : (i : ℕ) (its_row : StepRow) → slice_get rows i ≡ Some its_row → row_at C (row_on C i) ≡ Some its_row
    there i its_row is =
        let low = slice_get_within rows i its_row is in
        ap (row_at C) (row_here C rows e i (omega arith)) ∙ ap (λ (xs : List StepRow). slice_get xs i) (rows_are C rows e) ∙ is

    here : (r : Row) (its_row : StepRow) → row_at C r ≡ Some its_row → slice_get rows (leg_of C r) ≡ Some its_row
    here r its_row is =
        let own = own_row C rows e r (row_inside C r its_row is) in
        let number : leg_of C r ≡ r.step = ap (leg_of C) own.0 ∙ zero-add r.step in
        ap (slice_get rows) number ∙ ap (λ (xs : List StepRow). slice_get xs r.step) (sym (rows_are C rows e)) ∙ ap (row_at C) (sym own.0) ∙ is

    past_by : (j m : ℕ) → j < m → j < length rows → WhollyBefore C (row (row_of 0 j)) (last_by C (Some rows) m)
    past_by j m less low =
        elim (cases_lt m (length rows)) [
          | inl inside ↦ subst (λ (x : Moment). WhollyBefore C (row (row_of 0 j)) x) (sym (last_low C rows e m inside)) (earlier j m less inside)
          | inr past ↦ subst (λ (x : Moment). WhollyBefore C (row (row_of 0 j)) x) (sym (last_high C rows e m past)) tt
        ]

    ahead_by : (k m : ℕ) → m ≤ k → k < length rows → WhollyAfter C (row (row_of 0 k)) (last_by C (Some rows) m)
    ahead_by k m few low = subst (λ (x : Moment). WhollyAfter C (row (row_of 0 k)) x) (sym (last_low C rows e m (omega arith))) (no_earlier k m few low)

    ahead_of : (k m : ℕ) → k < length rows → WhollyAfter C (row (row_of 0 k)) (last_by C (Some rows) m) → m ≤ k
    ahead_of k m low h =
        elim (cases_lt m (length rows)) [
          | inl inside ↦
              elim (cases_lt k m) [
                | inl less ↦
                    let back : PrecedesOrIs C (first_event C (row_of 0 m)) (first_event C (row_of 0 k)) = subst (λ (x : Moment). WhollyAfter C (row (row_of 0 k)) x) (last_low C rows e m inside) h in
                    absurd (precedes_irreflexive C sound (first_event C (row_of 0 k)) (or_after C _ _ _ (begun k m less inside) back))
                | inr few ↦ few
              ]
          | inr past ↦ absurd (subst (λ (x : Moment). WhollyAfter C (row (row_of 0 k)) x) (last_high C rows e m past) h)
        ]

    told_single : IsTold C (seen_by C (Some rows)) (last_by C (Some rows))
    told_single = record {
      there = there;
      here = here;
      moment = λ m few. is_moment C rows e m;
      later = λ j k is its t.
          let low = row_low j is in
          let less = ltb-true k j t in
          let at_j = row_here C rows e j (omega arith) in
          let at_k = row_here C rows e k (omega arith) in
          subst (λ (r : Row). WhollyBefore C (row r) (before (row_on C j))) (sym at_k) (subst (λ (r : Row). WhollyBefore C (row (row_of 0 k)) (before r)) (sym at_j) (earlier k j less low));
      past = λ j m few is some t.
          let low = row_low j is in
          subst (λ (r : Row). WhollyBefore C (row r) (last_by C (Some rows) m)) (sym (row_here C rows e j (omega arith))) (past_by j m (ltb-true j m t) low);
      ahead = λ k m few is t.
          let low = row_low k is in
          subst (λ (r : Row). WhollyAfter C (row r) (last_by C (Some rows) m)) (sym (row_here C rows e k (omega arith))) (ahead_by k m (leb-true m k t) low);
      ahead_from = λ k m few is h.
          let low = row_low k is in
          le-leb m k (ahead_of k m low (subst (λ (r : Row). WhollyAfter C (row r) (last_by C (Some rows) m)) (row_here C rows e k (omega arith)) h));
      is_untraced = λ is. absurd (no_untraced is);
      untraced_before = λ j is its t. absurd (no_untraced is);
    }

  pub told_by : (o : Option (List StepRow)) → alone_by C.threads C.untraced ≡ o → IsTold C (seen_by C o) (last_by C o)
  told_by (Some rows) e = told_single rows e
  told_by None e = told_many
