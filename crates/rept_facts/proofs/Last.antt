-- From which row on none may have written a byte, found by the list of the rows that may write.
use Rattle.std.proofs.Common.{◌≡◌, ℕ, zero, suc, ◌+◌, ◌<◌, ◌≤◌, ◌^◌, List, get_or, Option, Some, None, IfSome, inl, inr, ap, subst, ◌∙◌, arith, slice_get}
use Rattle.std.proofs.lemmas.Bool.{cases_lt}
use Rattle.std.proofs.lemmas.Option.{slice_get_within, slice_get-get_or}
use Rattle.rept_reason.specs.Facts.{Knowledge, told}
use Rattle.rept_span.specs.Ranges.{AreLegs}
use Rattle.rept_writing.specs.Hits.{AreInOrder, IsHitBefore, IsPastHitFrom}
use Rattle.rept_writing.specs.declared.list.Writing.{Writing}
use Rattle.rept_report.specs.Last.Latest.{IsMaybe, IsNoneFrom}
use Rattle.rept_report.specs.Log.{oldest}
use Rattle.rept_report.specs.Setting.{Setting}
use Rattle.rept_report.specs.Spots.{spot}
use Rattle.rept_report.specs.Timeline.{Timeline, HasEqualNumbers, IsBegun, IsGreatestTo}
use Rattle.rept_report.specs.Views.{may_write}
use Rattle.rept_facts.specs.Work.{number_past}
use Rattle.rept_facts.specs.State.{AnalysisState, along, timeline_of}
use Rattle.rept_facts.specs.Inferring.{IsHitBy, IsSettled, past}
use Rattle.rept_facts.specs.Latest.{ArePassed, writes_by}
use Rattle.rept_facts.proofs.Along.{there_inside}
use Rattle.rept_facts.proofs.Settled.{listed_hit}

-- a row that has begun is one of the rows
pub begun_inside : (t : Timeline) → AreLegs t.legs → (m most : ℕ) (o : Option ℕ) → IsGreatestTo (IsBegun t m) most o → IfSome o (λ i. i < t.legs.count)
begun_inside t laws m most None is = tt
begun_inside t laws m most (Some i) is = there_inside t laws i is.0.row

-- what stands at an index, and further on at no lower number
stands_at : (list : List Writing) (i : ℕ) (w d : Writing) → slice_get list i ≡ Some w → get_or list i d ≡ w
stands_at list i w d found = let e = slice_get-get_or list i d (slice_get_within list i w found) in cc

rises : (list : List Writing) → AreInOrder list → (i j : ℕ) (v w : Writing) → slice_get list i ≡ Some v → slice_get list j ≡ Some w → i ≤ j → v.at ≤ w.at
rises list up i j v w first second le = subst (λ (x : Writing). x.at ≤ w.at) (stands_at list i v w first) (subst (λ (x : Writing). (get_or list i w).at ≤ x.at) (stands_at list j w w second) (up i j w le (slice_get_within list j w second)))

module _ {W : Type 0} (s : AnalysisState W) (settled : IsSettled s) (a : ℕ) (small : a < 2 ^ 32) where
  abbrev S : Setting W
  S = along s.path

  abbrev K : Knowledge
  K = told (oldest s.filled s.known.log)

  -- a row of the list stands at its own number
  at_own : HasEqualNumbers (timeline_of s) → (i : ℕ) (h : IsHitBy a i s) → h.writing.at ≡ i
  at_own equal i h =
      let its = settled.writings.barriers.each h.index h.writing h.found in
      its.time ∙ equal h.writing.row its.there ∙ h.row_is

  hit_before : HasEqualNumbers (timeline_of s) → (n i : ℕ) → i < n → (h : IsHitBy a i s) → IsHitBefore s.work.writing n a h.index
  hit_before equal n i below h = let own = at_own equal i h in record { writing = h.writing; stands = h.found; lower = omega (arith, own, below); hits = h.hits }

  -- each row below a number that may write the byte stands before the last one of the list below it,
  -- or is this one
  pub all_passed : HasEqualNumbers (timeline_of s) → (n k end : ℕ) → end ≡ past s.work.writing k → IsPastHitFrom s.work.writing 0 n a k → ArePassed S K n a end
  all_passed equal n zero end value is i below may = let h = listed_hit s settled a small i may in absurd (is.none_after h.index (omega arith) (hit_before equal n i below h))
  all_passed equal n (suc k) end value is i below may =
      let h = listed_hit s settled a small i may in
      elim is.before [
        | inl none ↦ absurd (omega (arith, none))
        | inr (j, e, hit) ↦
            let here : j ≡ k = omega (arith, e) in
            let found : slice_get s.work.writing k ≡ Some hit.writing = subst (λ (m : ℕ). slice_get s.work.writing m ≡ Some hit.writing) here hit.stands in
            let number : end ≡ hit.writing.at + 1 = value ∙ ap number_past found in
            elim (cases_lt h.index (suc k)) [
              | inl before ↦
                  let rise = rises s.work.writing settled.writings.barriers.order h.index k h.writing hit.writing h.found found (omega (arith, before)) in
                  let own = at_own equal i h in
                  omega (arith, rise, own, number)
              | inr late ↦ absurd (is.none_after h.index late (hit_before equal n i below h))
            ]
      ]

  -- none past those that have begun
  pub none_begun : (m : ℕ) (o : Option ℕ) → IsGreatestTo (IsBegun (timeline_of s) m) S.legs.count o → o ≡ None → IsNoneFrom (IsMaybe (timeline_of s) (writes_by S K) (spot m a)) 0
  none_begun m None none e k _ h = let inside = there_inside (timeline_of s) settled.writings.laws.legs k h.begun.row in none k (omega (arith, inside)) h.begun
  none_begun m (Some row) is e k _ h = let bad : ⊥ = cc in bad

  pub none_past_begun : (m row end : ℕ) → IsGreatestTo (IsBegun (timeline_of s) m) S.legs.count (Some row) → ArePassed S K (row + 1) a end → IsNoneFrom (IsMaybe (timeline_of s) (writes_by S K) (spot m a)) end
  none_past_begun m row end is below_end k out h =
      let inside = there_inside (timeline_of s) settled.writings.laws.legs k h.begun.row in
      elim (cases_lt row k) [
        | inl later ↦ is.2 k later (omega (arith, inside)) h.begun
        | inr low ↦ let below = below_end k (omega (arith, low)) h.may in omega (arith, below, out)
      ]
