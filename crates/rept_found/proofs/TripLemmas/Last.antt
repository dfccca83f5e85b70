-- The answer that is found is the one that fits.
use Rattle.std.proofs.Common.{◌≡◌, ℕ, zero, suc, ◌<◌, ◌&&◌, ◌||◌, not, eqb, cond, Bool, true, false, Option, Some, None, inl, inr, refl, sym, ap, ◌∙◌, subst, arith}
use Rattle.std.proofs.lemmas.Bool.{false≢true, cases_eq, cases_lt, and_parts, and_from, or_cases, or_left, or_right, not-true, not_from_false, false_from_ne_true, eqb-true, eq-eqb}
use Rattle.rept_isa.specs.declared.row.StepRow.{StepRow}
use Rattle.rept_reason.specs.Facts.{Knowledge}
use Rattle.rept_span.specs.Ranges.{AreLegs}
use Rattle.rept_report.specs.declared.writer.Writer as writers
use Rattle.rept_report.specs.Setting.{Setting}
use Rattle.rept_report.specs.Spots.{Spot}
use Rattle.rept_report.specs.Views.{registers_at, touched_by, may_write}
use Rattle.rept_report.specs.Latest.{IsEarlierRow}
use Rattle.rept_report.specs.Writers.{IsCandidate, IsLastCandidate, HasNoCandidate, is_certain, IsWriter}
use Rattle.rept_found.specs.Trip.Last.{all_below, greatest_below, is_candidate, comes_after, is_last, has_none, said_of, writer_found}

true_not : (b : Bool) → not b ≡ true → b ≡ true → ⊥
true_not b e k = false≢true (sym (not-true b e) ∙ k)

some_is : {j n : ℕ} → Some n ≡ Some j → n ≡ j
some_is e = cc

none_some : {j : ℕ} → None ≡ Some j → ⊥
none_some e = cc

some_none : {j : ℕ} → Some j ≡ None → ⊥
some_none e = cc

all_true : (test : ℕ → Bool) (n : ℕ) → all_below test n ≡ true → (i : ℕ) → i < n → test i ≡ true
all_true test zero e i less = absurd (omega arith)
all_true test (suc n) e i less =
    let parts = and_parts (test n) (all_below test n) e in
    elim (cases_lt i n) [
      | inl below ↦ all_true test n parts.1 i below
      | inr past ↦ let same : n ≡ i = omega arith in subst (λ (k : ℕ). test k ≡ true) same parts.0
    ]

all_from : (test : ℕ → Bool) (n : ℕ) → ((i : ℕ) → i < n → test i ≡ true) → all_below test n ≡ true
all_from test zero h = refl
all_from test (suc n) h = and_from (test n) (all_below test n) (h n (omega arith)) (all_from test n (λ i less. h i (omega arith)))

greatest_some : (test : ℕ → Bool) (n j : ℕ) → greatest_below test n ≡ Some j → test j ≡ true
greatest_some test zero j e = absurd (none_some e)
greatest_some test (suc n) j e = by (test n) refl (λ rest. greatest_some test n j rest)
  where
    by : (b : Bool) → test n ≡ b → (greatest_below test n ≡ Some j → test j ≡ true) → test j ≡ true
    by true t rest = let same : n ≡ j = some_is (sym (ap (λ (c : Bool). cond c (Some n) (greatest_below test n)) t) ∙ e) in subst (λ (k : ℕ). test k ≡ true) same t
    by false t rest = rest (sym (ap (λ (c : Bool). cond c (Some n) (greatest_below test n)) t) ∙ e)

greatest_none : (test : ℕ → Bool) (n : ℕ) → greatest_below test n ≡ None → (i : ℕ) → i < n → test i ≡ true → ⊥
greatest_none test zero e i less t = absurd (omega arith)
greatest_none test (suc n) e i less t = by (test n) refl (λ rest below. greatest_none test n rest i below t)
  where
    by : (b : Bool) → test n ≡ b → (greatest_below test n ≡ None → i < n → ⊥) → ⊥
    by true k rest = some_none (sym (ap (λ (c : Bool). cond c (Some n) (greatest_below test n)) k) ∙ e)
    by false k rest =
        elim (cases_lt i n) [
          | inl below ↦ rest (sym (ap (λ (c : Bool). cond c (Some n) (greatest_below test n)) k) ∙ e) below
          | inr past ↦ let same : n ≡ i = omega arith in false≢true (sym k ∙ ap test same ∙ t)
        ]

module _ {W : Type 0} (S : Setting W) (K : Knowledge) (x : Spot) (legs : AreLegs S.legs) where
  -- a row that may write is there
  may_below : (i : ℕ) → may_write S K i x.address ≡ true → i < S.legs.count
  may_below i may = by (S.legs.row i) refl
    where
      by : (o : Option StepRow) → S.legs.row i ≡ o → i < S.legs.count
      by (Some row) is = legs.inside i row is
      by None is = absurd (false≢true (sym (ap (λ (o : Option StepRow). touched_by S o (registers_at S K i) x.address) is) ∙ may))

  candidate_true : (i : ℕ) → is_candidate S K x i ≡ true → IsCandidate S K x i
  candidate_true i e =
      let parts = and_parts (may_write S K i x.address) (not (S.moments.ahead i x.moment)) e in
      record { may = parts.0; reaches = not-true (S.moments.ahead i x.moment) parts.1 }

  candidate_from : (i : ℕ) → IsCandidate S K x i → is_candidate S K x i ≡ true
  candidate_from i h = and_from (may_write S K i x.address) (not (S.moments.ahead i x.moment)) h.may (not_from_false (S.moments.ahead i x.moment) h.reaches)

  abbrev is_behind : ℕ → ℕ → Bool
  is_behind j k = eqb k j || (not (is_candidate S K x k) || comes_after S.moments j k)

  last_true : (j : ℕ) → is_last S K x j ≡ true → IsLastCandidate S K x j
  last_true j e =
      let one = and_parts (is_candidate S K x j) ((not S.moments.is_untraced || S.moments.untraced_before j) && all_below (is_behind j) S.legs.count) e in
      let two = and_parts (not S.moments.is_untraced || S.moments.untraced_before j) (all_below (is_behind j) S.legs.count) one.1 in
      record { one = candidate_true j one.0; after = λ k its other. after_by k its other (all_true (is_behind j) S.legs.count two.1 k (may_below k its.may)); untraced = untraced_by two.0 }
    where
      after_from : (k : ℕ) → comes_after S.moments j k ≡ true → IsEarlierRow S.moments k j
      after_from k e = let parts = and_parts (S.moments.later j k) (not (S.moments.later k j)) e in record { later = parts.0; apart = not-true (S.moments.later k j) parts.1 }

      after_by : (k : ℕ) → IsCandidate S K x k → (k ≡ j → ⊥) → is_behind j k ≡ true → IsEarlierRow S.moments k j
      after_by k its other e =
          elim (or_cases (eqb k j) (not (is_candidate S K x k) || comes_after S.moments j k) e) [
            | inl same ↦ absurd (other (eqb-true k j same))
            | inr rest ↦
                elim (or_cases (not (is_candidate S K x k)) (comes_after S.moments j k) rest) [
                  | inl none ↦ absurd (true_not (is_candidate S K x k) none (candidate_from k its))
                  | inr comes ↦ after_from k comes
                ]
          ]

      untraced_by : (not S.moments.is_untraced || S.moments.untraced_before j) ≡ true → S.moments.is_untraced ≡ true → S.moments.untraced_before j ≡ true
      untraced_by e untraced =
          elim (or_cases (not S.moments.is_untraced) (S.moments.untraced_before j) e) [
            | inl light ↦ absurd (true_not S.moments.is_untraced light untraced)
            | inr before ↦ before
          ]

  last_from : (j : ℕ) → IsLastCandidate S K x j → is_last S K x j ≡ true
  last_from j h =
      and_from (is_candidate S K x j) ((not S.moments.is_untraced || S.moments.untraced_before j) && all_below (is_behind j) S.legs.count) (candidate_from j h.one)
      (and_from (not S.moments.is_untraced || S.moments.untraced_before j) (all_below (is_behind j) S.legs.count) (untraced_by S.moments.is_untraced refl)
      (all_from (is_behind j) S.legs.count (λ k less. behind k (is_candidate S K x k) refl)))
    where
      untraced_by : (b : Bool) → S.moments.is_untraced ≡ b → (not S.moments.is_untraced || S.moments.untraced_before j) ≡ true
      untraced_by true untraced = or_right (not S.moments.is_untraced) (S.moments.untraced_before j) (h.untraced untraced)
      untraced_by false light = or_left (not S.moments.is_untraced) (S.moments.untraced_before j) (not_from_false S.moments.is_untraced light)

      behind : (k : ℕ) (b : Bool) → is_candidate S K x k ≡ b → is_behind j k ≡ true
      behind k false none = or_right (eqb k j) (not (is_candidate S K x k) || comes_after S.moments j k) (or_left (not (is_candidate S K x k)) (comes_after S.moments j k) (not_from_false (is_candidate S K x k) none))
      behind k true its =
          elim (cases_eq k j) [
            | inl same ↦ or_left (eqb k j) (not (is_candidate S K x k) || comes_after S.moments j k) (eq-eqb k j same)
            | inr other ↦
                let after = h.after k (candidate_true k its) other in
                or_right (eqb k j) (not (is_candidate S K x k) || comes_after S.moments j k) (or_right (not (is_candidate S K x k)) (comes_after S.moments j k) (and_from (S.moments.later j k) (not (S.moments.later k j)) after.later (not_from_false (S.moments.later k j) after.apart)))
          ]

  none_true : has_none S K x ≡ true → HasNoCandidate S K x
  none_true e =
      let parts = and_parts (not S.moments.is_untraced) (all_below (λ k. not (is_candidate S K x k)) S.legs.count) e in
      record {
        rows = λ k its. true_not (is_candidate S K x k) (all_true (λ k. not (is_candidate S K x k)) S.legs.count parts.1 k (may_below k its.may)) (candidate_from k its);
        light = not-true S.moments.is_untraced parts.0;
      }

  none_from : HasNoCandidate S K x → has_none S K x ≡ true
  none_from h =
      and_from (not S.moments.is_untraced) (all_below (λ k. not (is_candidate S K x k)) S.legs.count) (not_from_false S.moments.is_untraced h.light)
      (all_from (λ k. not (is_candidate S K x k)) S.legs.count (λ k less. not_from_false (is_candidate S K x k) (false_from_ne_true (is_candidate S K x k) (λ its. h.rows k (candidate_true k its)))))

  by_certain : (j : ℕ) → IsLastCandidate S K x j → (b : Bool) → is_certain S K x j ≡ b → IsWriter S K x (cond b (writers.TheVariants.Writes j) (writers.TheVariants.MayWrite j))
  by_certain j last true e = (last, e)
  by_certain j last false e = (last, e)

  by_none : ((j : ℕ) → IsLastCandidate S K x j → ⊥) → (b : Bool) → has_none S K x ≡ b → IsWriter S K x (cond b writers.TheVariants.None writers.TheVariants.Several)
  by_none none true e = none_true e
  by_none none false e = (none, λ h. false≢true (sym e ∙ none_from h))

  by_greatest : (o : Option ℕ) → greatest_below (is_last S K x) S.legs.count ≡ o → IsWriter S K x (said_of S K x o)
  by_greatest (Some j) e = by_certain j (last_true j (greatest_some (is_last S K x) S.legs.count j e)) (is_certain S K x j) refl
  by_greatest None e = by_none (λ j h. greatest_none (is_last S K x) S.legs.count e j (may_below j h.one.may) (last_from j h)) (has_none S K x) refl

  pub found_fits : IsWriter S K x (writer_found S K x)
  found_fits = by_greatest (greatest_below (is_last S K x) S.legs.count) refl
