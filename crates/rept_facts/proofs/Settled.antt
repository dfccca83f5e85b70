-- Whether all that may write a byte lies wholly before a moment, found by the list of the rows that
-- may write.
use Rattle.std.proofs.Common.{◌≡◌, ℕ, zero, suc, ◌+◌, ◌-◌, ◌<◌, ◌≤◌, ◌^◌, ◌⊎◌, Bool, true, false, not, ◌&&◌, ◌||◌, length, Option, Some, None, inl, inr, refl, sym, subst, ◌∙◌, arith, slice_get}
use Rattle.std.specs.Option.{IsSome}
use Rattle.std.proofs.lemmas.Bool.{cases_Bool, cases_eq, cases_lt, and_parts, and_from, false_from_ne_true, false≢true}
use Rattle.std.proofs.lemmas.Option.{slice_get_within}
use Rattle.rept_alias.specs.Accesses.{call_hits}
use Rattle.rept_isa.specs.declared.row.StepRow.{StepRow}
use Rattle.rept_reason.specs.Facts.{Knowledge, told}
use Rattle.rept_span.specs.Ranges.{Legs}
use Rattle.rept_reason.specs.View.Seen.{Seen}
use Rattle.rept_report.specs.Reach.Reaching.{IsExtent}
use Rattle.rept_report.specs.declared.paths.NumberWindow.{NumberWindow}
use Rattle.rept_writing.specs.Hits.{IsSplitAt, IsFreeSince}
use Rattle.rept_writing.specs.declared.list.Writing.{Writing}
use Rattle.rept_report.specs.declared.paths.NumberChain.{NumberChain}
use Rattle.rept_report.specs.Moments.{Moments, AreMoments}
use Rattle.rept_report.specs.Timeline.{IsLine}
use Rattle.rept_report.specs.Setting.{Setting}
use Rattle.rept_report.specs.Spots.{spot}
use Rattle.rept_report.specs.Views.{may_write, registers_at, touched_by}
use Rattle.rept_report.specs.Implied.{all_past, is_settled}
use Rattle.rept_report.specs.Log.{oldest}
use Rattle.rept_report.proofs.Registers.{may_write_same}
use Rattle.rept_facts.specs.State.{AnalysisState, all_known, along, timeline_of}
use Rattle.rept_facts.specs.Inferring.{IsSpared, IsSettled, IsHitBy, AreWritings, AreHitsPast, AreFormerPast, AreLaterPast, IsLateHit}
use Rattle.rept_facts.proofs.Along.{some_row, there_inside}
use Rattle.rept_facts.proofs.Answering.{filled_all}

-- a row that may write is there
row_there : {W : Type 0} (S : Setting W) (o : Option StepRow) (v : Seen) (a : ℕ) → touched_by S o v a ≡ true → IsSome o
row_there S None v a e = absurd (false≢true e)
row_there S (Some row) v a e = refl

module _ {W : Type 0} (S : Setting W) (K : Knowledge) (m a : ℕ) where
  -- each row below a number that may write the byte lies before the moment
  abbrev pub ArePast : ℕ → Type 0
  ArePast n = (i : ℕ) → i < n → may_write S K i a ≡ true → S.moments.past i m ≡ true

  abbrev past_below : ℕ → Bool
  past_below n = all_past S.moments (may_write S K) (spot m a) n

  past_all : (n : ℕ) → ArePast n → past_below n ≡ true
  past_all zero h = refl
  past_all (suc n) h = and_from (S.moments.past n m || not (may_write S K n a)) (past_below n) (either (S.moments.past n m) (may_write S K n a) (h n (omega arith))) (past_all n (λ i below may. h i (omega (arith, below)) may))
    where
      either : (b c : Bool) → (c ≡ true → b ≡ true) → (b || not c) ≡ true
      either true c h = refl
      either false true h = absurd (false≢true (h refl))
      either false false h = refl

  all_are : (n : ℕ) → past_below n ≡ true → ArePast n
  all_are zero e i below may = absurd (omega (arith, below))
  all_are (suc n) e i below may =
      let parts = and_parts (S.moments.past n m || not (may_write S K n a)) (past_below n) e in
      elim (cases_eq i n) [
        | inl here ↦ subst (λ (k : ℕ). S.moments.past k m ≡ true) (sym here) (first (S.moments.past n m) (may_write S K n a) parts.0 (subst (λ (k : ℕ). may_write S K k a ≡ true) here may))
        | inr other ↦ all_are n parts.1 i (omega (arith, below, other)) may
      ]
    where
      first : (b c : Bool) → (b || not c) ≡ true → c ≡ true → b ≡ true
      first true c e h = refl
      first false true e h = absurd (false≢true e)
      first false false e h = absurd (false≢true h)

  pub settled_from : (b : Bool) → b ≡ S.moments.untraced_past m → ArePast S.legs.count → b ≡ is_settled S K (spot m a)
  settled_from b is h = is ∙ sym (and_all (S.moments.untraced_past m) (past_below S.legs.count) (past_all S.legs.count h))
    where
      and_all : (b c : Bool) → c ≡ true → (b && c) ≡ b
      and_all true c e = e
      and_all false c e = refl

  pub unsettled : (i : ℕ) → i < S.legs.count → may_write S K i a ≡ true → S.moments.past i m ≡ false → false ≡ is_settled S K (spot m a)
  unsettled i inside may open_ = sym (false_from_ne_true (is_settled S K (spot m a)) (λ e. false≢true (sym open_ ∙ all_are S.legs.count (and_parts (S.moments.untraced_past m) (past_below S.legs.count) e).1 i inside may)))

-- what may act at no number from one on, from which numbers lead one by one to the end, lies before
-- that one
module _ (legs : Legs) (moments : Moments) (laws : AreMoments legs moments) (m : ℕ) (line : NumberChain) (is : IsLine moments m line) (whole : line.last ≡ moments.end) (i : ℕ) (window : NumberWindow) (extent : IsExtent moments i window) (low : window.to ≤ m) where
  past_from_end : (n k : ℕ) → n + k ≡ moments.end → m ≤ k → moments.past i moments.end ≡ true → moments.past i k ≡ true
  past_from_end zero k far from last = let here : moments.end ≡ k = omega (arith, far) in subst (λ (j : ℕ). moments.past i j ≡ true) here last
  past_from_end (suc n) k far from last =
      let first = is.from in
      let next = (is.joined k (omega (arith, first, from)) (omega (arith, far, whole))).next in
      let later = past_from_end n (k + 1) (omega (arith, far)) (omega (arith, from)) last in
      moments_back next later (cases_Bool (moments.may_act i k (k + 1)))
    where
      moments_back : moments.next k (k + 1) ≡ true → moments.past i (k + 1) ≡ true → (moments.may_act i k (k + 1) ≡ true) ⊎ (moments.may_act i k (k + 1) ≡ false) → moments.past i k ≡ true
      moments_back next later (inl may_act) = let within = (extent k (k + 1) next may_act).0 in absurd (omega (arith, within, low, from))
      moments_back next later (inr spared) = laws.past_back i k (k + 1) next later spared

  pub past_on_line : m ≤ moments.end → (row : StepRow) → legs.row i ≡ Some row → moments.past i m ≡ true
  past_on_line early row found = past_from_end (moments.end - m) m (omega (arith, early)) (omega arith) (laws.rows_past i row found)

-- the rows of the list by the numbers at which they stand
module _ {W : Type 0} (s : AnalysisState W) (writings : AreWritings s) (m a : ℕ) where
  pub over_past : (line : NumberChain) (since : ℕ) → m ≤ s.path.given.moments.end → IsLine s.path.given.moments m line → line.last ≡ s.path.given.moments.end → IsFreeSince s.work.writing m a since → since ≤ m → AreFormerPast (spot m a) s
  over_past line since early is whole free low k w found before hits =
      let its = writings.barriers.each k w found in
      let row = some_row (s.path.given.legs.row w.row) its.there in
      let to = free k w found before hits in
      past_on_line s.path.given.legs s.path.given.moments writings.laws.moments m line is whole w.row (record { from = w.from; to = w.to }) its.extent (omega (arith, to, low)) early row.0 row.1

  pub former_past : (split : ℕ) → IsSplitAt s.work.writing m split → AreHitsPast 0 split (spot m a) s → AreFormerPast (spot m a) s
  former_past split is past k w found low hits =
      elim (cases_lt k split) [
        | inl below ↦ past k w found (omega arith) below hits
        | inr from ↦ let high = is.above k w found from in absurd (omega (arith, low, high))
      ]

  pub later_past : (split count : ℕ) → IsSplitAt s.work.writing m split → count ≡ length s.work.writing → AreHitsPast split count (spot m a) s → AreLaterPast (spot m a) s
  later_past split count is all past k w found high hits =
      elim (cases_lt k split) [
        | inl below ↦ let low = is.below k w found below in absurd (omega (arith, low, high))
        | inr from ↦ let within = slice_get_within s.work.writing k w found in past k w found from (omega (arith, within, all)) hits
      ]

-- where all is learnt, the rows that may write are those of the list
module _ {W : Type 0} (s : AnalysisState W) (settled : IsSettled s) (a : ℕ) (small : a < 2 ^ 32) where
  abbrev S : Setting W
  S = along s.path

  abbrev K : Knowledge
  K = told (oldest s.filled s.known.log)

  -- what may not write by all that is known may not by the facts of which the sets are
  told_spared : (i : ℕ) → IsSpared i a s → may_write S K i a ≡ false
  told_spared i (inl old) = old
  told_spared i (inr now) = may_write_same S K (all_known s) (λ q r. rw (filled_all s settled) refl) i a ∙ now settled.quiet

  pub listed_hit : (i : ℕ) → may_write S K i a ≡ true → IsHitBy a i s
  listed_hit i may =
      elim (settled.writings.barriers.all i (row_there S (S.legs.row i) (registers_at S K i) a may)) [
        | inr silent ↦ absurd (false≢true (sym (silent a small) ∙ may))
        | inl x ↦ elim (cases_Bool (call_hits x.writing.access a)) [
          | inl hits ↦ record { index = x.index; writing = x.writing; found = x.found; hits = hits; row_is = x.row }
          | inr miss ↦
              let spared : IsSpared i a s = subst (λ (n : ℕ). IsSpared n a s) x.row ((settled.writings.barriers.each x.index x.writing x.found).others a small miss) in
              absurd (false≢true (sym (told_spared i spared) ∙ may))
        ]
      ]

  -- all of them lie before the moment, those at lower numbers and the others
  pub settled_by_list : (m : ℕ) (b : Bool) → AreLaterPast (spot m a) s → AreFormerPast (spot m a) s → b ≡ S.moments.untraced_past m → b ≡ is_settled S K (spot m a)
  settled_by_list m b later former is = settled_from S K m a b is (λ i inside may.
      let h = listed_hit i may in
      let gone : S.moments.past h.writing.row m ≡ true =
      elim (cases_lt h.writing.at m) [
        | inl low ↦ former h.index h.writing h.found low h.hits
        | inr high ↦ later h.index h.writing h.found high h.hits
      ] in
      subst (λ (n : ℕ). S.moments.past n m ≡ true) h.row_is gone)

  -- one doesn't
  pub unsettled_by_list : (m : ℕ) → IsLateHit (spot m a) s → false ≡ is_settled S K (spot m a)
  unsettled_by_list m h =
      let there = (settled.writings.barriers.each h.index h.writing h.found).there in
      let inside = there_inside (timeline_of s) settled.writings.laws.legs h.writing.row there in
      unsettled S K m a h.writing.row inside (settled.exact h.index h.writing a h.found small h.hits) h.late
