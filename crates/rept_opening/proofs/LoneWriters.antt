-- What is said of the step that last wrote a byte at a point of a run of one thread, in however
-- many slices, is what is said of it on the path.
use Rattle.std.proofs.Common.{◌≡◌, ℕ, zero, suc, ◌+◌, ◌<◌, ◌≤◌, ◌&&◌, ◌||◌, not, eqb, leb, ltb, cond, Bool, true, false, List, length, None, Some, Option, inl, inr, refl, sym, ap, ◌∙◌, subst, arith}
use Rattle.std.proofs.lemmas.Bool.{cases_Bool, cases_lt, cases_order, cond-true, cond-false, false≢true, and_parts, lt-ltb, le-ltb, ltb-true, le-leb, leb-true}
use Rattle.rept_isa.specs.declared.row.StepRow.{StepRow}
use Rattle.rept_reason.specs.Facts.{Knowledge}
use Rattle.rept_steps.specs.declared.slice.Slice.{Slice}
use Rattle.rept_steps.specs.Course.{Course, Row, row_of, IsSoundCourse}
use Rattle.rept_order.specs.Moments.{Moment, NotLater, stores}
use Rattle.rept_order.specs.Moments.Moment.{before, after}
use Rattle.rept_order.specs.Moments.Act.{row}
use Rattle.rept_order.specs.Times.{wholly_after, wholly_before}
use Rattle.rept_order.proofs.Acting.{after_from, after_true, before_from}
use Rattle.rept_moments.specs.Naming.Numbered.{row_on}
use Rattle.rept_moments.specs.Numbers.{numbers_of, numbered}
use Rattle.rept_report.specs.Moments.{points_of}
use Rattle.rept_report.specs.Setting.{Setting}
use Rattle.rept_report.specs.Spots.{spot}
use Rattle.rept_report.specs.Views.{is_sure, may_write}
use Rattle.rept_report.specs.declared.writer.Writer as told
use Rattle.rept_found.specs.Trip.Last.{all_below, comes_after, greatest_below, has_none, is_candidate, is_last, said_of, writer_found}
use Rattle.rept_opening.proofs.LoneLemmas.{C, B}
use Rattle.rept_opening.proofs.LoneOrder.{at, at_inside, at_moment, at_rank, earlier, rank_later}
use Rattle.rept_opening.proofs.LoneNumbers.{last_number, leg_row, to_number}
use Rattle.rept_opening.proofs.Renumbered.{with_moments}

-- two tests that are true together are the same
same_test : (x y : Bool) → (x ≡ true → y ≡ true) → (y ≡ true → x ≡ true) → x ≡ y
same_test true y f g = sym (f refl)
same_test false true f g = g refl
same_test false false f g = refl

all_same : (f g : ℕ → Bool) (k : ℕ) → ((i : ℕ) → i < k → f i ≡ g i) → all_below f k ≡ all_below g k
all_same f g zero h = refl
all_same f g (suc k) h = ap (λ (b : Bool). b && all_below f k) (h k (omega arith)) ∙ ap (λ (b : Bool). g k && b) (all_same f g k (λ i less. h i (omega (arith, less))))

greatest_same : (f g : ℕ → Bool) (k : ℕ) → ((i : ℕ) → i < k → f i ≡ g i) → greatest_below f k ≡ greatest_below g k
greatest_same f g zero h = refl
greatest_same f g (suc k) h = ap (λ (b : Bool). cond b (Some k) (greatest_below f k)) (h k (omega arith)) ∙ ap (λ (o : Option ℕ). cond (g k) (Some k) o) (greatest_same f g k (λ i less. h i (omega (arith, less))))

greatest_is : (f : ℕ → Bool) (k j : ℕ) → greatest_below f k ≡ Some j → (j < k) × (f j ≡ true)
greatest_is f zero j e = absurd (none_some e)
  where
    none_some : None ≡ Some j → ⊥
    none_some e = cc
greatest_is f (suc k) j e =
    elim (cases_Bool (f k)) [
      | inl here ↦
          let same : k ≡ j = some_same (sym (cond-true (f k) (Some k) (greatest_below f k) here) ∙ e) in
          (omega (arith, same), subst (λ (i : ℕ). f i ≡ true) same here)
      | inr out ↦
          let rest = greatest_is f k j (sym (cond-false (f k) (Some k) (greatest_below f k) out) ∙ e) in
          let less = rest.0 in
          (omega (arith, less), rest.1)
    ]
  where
    some_same : {x y : ℕ} → Some x ≡ Some y → x ≡ y
    some_same e = cc

not_true : (b : Bool) → not b ≡ true → b ≡ false
not_true true e = absurd (false≢true e)
not_true false e = refl

module _ (rows : List StepRow) (slices : List Slice) (sound : IsSoundCourse (C rows slices)) (one : IsSoundCourse (B rows slices)) where
  abbrev n : ℕ
  n = length rows

  abbrev X : Course
  X = C rows slices

  abbrev here : ℕ → Moment
  here p = at rows slices sound one p

  abbrev number : ℕ → ℕ
  number p = to_number rows slices sound one p

  -- a step lies after a point exactly where its number isn't less
  later_point : (q i : ℕ) → q ≤ n → i < n → wholly_after X (row (row_of 0 i)) (here q) ≡ leb q i
  later_point q i most few = same_test (wholly_after X (row (row_of 0 i)) (here q)) (leb q i) forth back
    where
      forth : wholly_after X (row (row_of 0 i)) (here q) ≡ true → leb q i ≡ true
      forth e =
          let way = after_true X sound (row (row_of 0 i)) (here q) few (at_moment rows slices sound one q) e in
          let low = rank_later rows slices sound one (here q) (before (row_of 0 i)) (at_moment rows slices sound one q) few way in
          let there = at_rank rows slices sound one q most in
          le-leb q i (omega (arith, low, there))

      back : leb q i ≡ true → wholly_after X (row (row_of 0 i)) (here q) ≡ true
      back e =
          let low = leb-true q i e in
          let way : NotLater X (here q) (before (row_of 0 i)) = elim (cases_lt q i) [
            | inl less ↦ let there = at_rank rows slices sound one q most in (earlier rows slices sound one (here q) (before (row_of 0 i)) (at_moment rows slices sound one q) few (omega (arith, less, there))).0
            | inr more ↦
                let same : q ≡ i = omega (arith, low, more) in
                subst (λ (m : Moment). NotLater X m (before (row_of 0 i))) (sym (at_inside rows slices sound one q (omega (arith, same, few)) ∙ ap (λ (k : ℕ). before (row_of 0 k)) same)) (inl refl)
          ] in
          after_from X sound (row (row_of 0 i)) (here q) way

  -- a step lies after another one exactly where its number is greater
  later_step : (j k : ℕ) → j < n → k < n → wholly_after X (row (row_of 0 j)) (after (row_of 0 k)) ≡ ltb k j
  later_step j k few less = same_test (wholly_after X (row (row_of 0 j)) (after (row_of 0 k))) (ltb k j) forth back
    where
      forth : wholly_after X (row (row_of 0 j)) (after (row_of 0 k)) ≡ true → ltb k j ≡ true
      forth e =
          let way = after_true X sound (row (row_of 0 j)) (after (row_of 0 k)) few less e in
          let low = rank_later rows slices sound one (after (row_of 0 k)) (before (row_of 0 j)) less few way in
          lt-ltb k j (omega (arith, low))

      back : ltb k j ≡ true → wholly_after X (row (row_of 0 j)) (after (row_of 0 k)) ≡ true
      back e = let low = ltb-true k j e in after_from X sound (row (row_of 0 j)) (after (row_of 0 k)) (earlier rows slices sound one (after (row_of 0 k)) (before (row_of 0 j)) less few (omega (arith, low))).0

  -- a step before a point lies before it
  past_point : (q j : ℕ) → q ≤ n → j < q → wholly_before X (row (row_of 0 j)) (here q) ≡ true
  past_point q j most less =
      let there = at_rank rows slices sound one q most in
      before_from X sound (row (row_of 0 j)) (here q) (omega (arith, less, most)) (at_moment rows slices sound one q)
      (earlier rows slices sound one (after (row_of 0 j)) (here q) (omega (arith, less, most)) (at_moment rows slices sound one q) (omega (arith, less, there))).0

  module _ {W : Type 0} (S : Setting W) (count : S.legs.count ≡ length rows) (K : Knowledge) (q a : ℕ) (most : q ≤ length rows) where
    abbrev one_way : Setting W
    one_way = with_moments S (numbered X)

    abbrev other_way : Setting W
    other_way = with_moments S (points_of (length rows))

    abbrev m : ℕ
    m = number q

    ahead_same : (i : ℕ) → i < n → (numbered X).ahead i m ≡ leb q i
    ahead_same i few =
        ap (λ (r : Row). wholly_after X (row r) ((numbers_of X).last m)) (leg_row rows slices sound one i (omega (arith, few)))
        ∙ ap (λ (w : Moment). wholly_after X (row (row_of 0 i)) w) (last_number rows slices sound one q most)
        ∙ later_point q i most few

    later_same : (j k : ℕ) → j < n → k < n → (numbered X).later j k ≡ ltb k j
    later_same j k few less =
        ap (λ (r : Row). wholly_after X (row r) (after (row_on X k))) (leg_row rows slices sound one j (omega (arith, few)))
        ∙ ap (λ (r : Row). wholly_after X (row (row_of 0 j)) (after r)) (leg_row rows slices sound one k (omega (arith, less)))
        ∙ later_step j k few less

    candidate_same : (i : ℕ) → i < n → is_candidate one_way K (spot m a) i ≡ is_candidate other_way K (spot q a) i
    candidate_same i few = ap (λ (b : Bool). may_write S K i a && not b) (ahead_same i few)

    after_same : (j k : ℕ) → j < n → k < n → comes_after (numbered X) j k ≡ comes_after (points_of (length rows)) j k
    after_same j k few less = ap (λ (b : Bool). b && not ((numbered X).later k j)) (later_same j k few less) ∙ ap (λ (b : Bool). ltb k j && not b) (later_same k j less few)

    last_same : (j : ℕ) → j < n → is_last one_way K (spot m a) j ≡ is_last other_way K (spot q a) j
    last_same j few =
        ap (λ (b : Bool). b && all_below (λ k. eqb k j || (not (is_candidate one_way K (spot m a) k) || comes_after (numbered X) j k)) S.legs.count) (candidate_same j few)
        ∙ ap (λ (b : Bool). is_candidate other_way K (spot q a) j && b)
        (all_same (λ k. eqb k j || (not (is_candidate one_way K (spot m a) k) || comes_after (numbered X) j k)) (λ k. eqb k j || (not (is_candidate other_way K (spot q a) k) || comes_after (points_of (length rows)) j k)) S.legs.count
        (λ k less.
        let below : k < n = subst (λ (x : ℕ). k < x) count less in
        ap (λ (b : Bool). eqb k j || (not b || comes_after (numbered X) j k)) (candidate_same k below) ∙ ap (λ (b : Bool). eqb k j || (not (is_candidate other_way K (spot q a) k) || b)) (after_same j k few below)))

    none_same : has_none one_way K (spot m a) ≡ has_none other_way K (spot q a)
    none_same = all_same (λ k. not (is_candidate one_way K (spot m a) k)) (λ k. not (is_candidate other_way K (spot q a) k)) S.legs.count (λ k less. ap not (candidate_same k (subst (λ (x : ℕ). k < x) count less)))

    past_same : (j : ℕ) → j < q → (numbered X).past j m ≡ true
    past_same j less =
        ap (λ (r : Row). not (stores X r) || wholly_before X (row r) ((numbers_of X).last m)) (leg_row rows slices sound one j (omega (arith, less, most)))
        ∙ ap (λ (w : Moment). not (stores X (row_of 0 j)) || wholly_before X (row (row_of 0 j)) w) (last_number rows slices sound one q most)
        ∙ or_true (not (stores X (row_of 0 j))) (wholly_before X (row (row_of 0 j)) (here q)) (past_point q j most less)
      where
        or_true : (x y : Bool) → y ≡ true → (x || y) ≡ true
        or_true true y e = refl
        or_true false y e = e

    before_point : (j : ℕ) → is_last other_way K (spot q a) j ≡ true → j < q
    before_point j e =
        let first = (and_parts (is_candidate other_way K (spot q a) j) (all_below (λ k. eqb k j || (not (is_candidate other_way K (spot q a) k) || comes_after (points_of (length rows)) j k)) S.legs.count) e).0 in
        let out = not_true (leb q j) (and_parts (may_write S K j a) (not (leb q j)) first).1 in
        elim (cases_lt j q) [
          | inl less ↦ less
          | inr more ↦ absurd (false≢true (sym out ∙ le-leb q j more))
        ]

    said_same : (o : Option ℕ) → greatest_below (is_last other_way K (spot q a)) S.legs.count ≡ o → said_of one_way K (spot m a) o ≡ said_of other_way K (spot q a) o
    said_same None e = ap (λ (b : Bool). cond b told.TheVariants.None told.TheVariants.Several) none_same
    said_same (Some j) e =
        let less = before_point j (greatest_is (is_last other_way K (spot q a)) S.legs.count j e).1 in
        ap (λ (b : Bool). cond (is_sure S K j && b) (told.TheVariants.Writes j) (told.TheVariants.MayWrite j)) (past_same j less ∙ sym (lt-ltb j q less))

    pub writer_same : writer_found one_way K (spot m a) ≡ writer_found other_way K (spot q a)
    writer_same =
        ap (said_of one_way K (spot m a)) (greatest_same (is_last one_way K (spot m a)) (is_last other_way K (spot q a)) S.legs.count (λ j less. last_same j (subst (λ (x : ℕ). j < x) count less)))
        ∙ said_same (greatest_below (is_last other_way K (spot q a)) S.legs.count) refl
