-- Reasons by which a byte is carried.
use Rattle.std.proofs.Common.{◌≡◌, ℕ, zero, suc, ◌<◌, ◌≤◌, ◌⊎◌, ◌&&◌, true, eqb, inl, inr, List, [], ◌∷◌, Some, None, is_some, refl, sym, ap, subst, ◌∙◌, arith}
use Rattle.std.proofs.lemmas.Bool.{cases_Bool, cases_eq, cond-true, cond-false, eq-eqb, eqb-true, and_parts, and_from}
use Rattle.rept_reason.specs.declared.fact.Fact.{Fact}
use Rattle.rept_reason.specs.declared.fact.Cell.{Cell}
use Rattle.rept_reason.specs.declared.fact.Cell.TheVariants.{Byte}
use Rattle.rept_reason.specs.declared.reason.RangePremise.{RangePremise}
use Rattle.rept_reason.specs.Facts.{Knowledge, told}
use Rattle.rept_report.specs.declared.nearest.found.NearestValue.{NearestValue}
use Rattle.rept_report.specs.Nearest.Nets.{IsNearest}
use Rattle.rept_report.specs.Setting.{Setting, HasLaws}
use Rattle.rept_report.specs.Spots.{Passage, passage, spot}
use Rattle.rept_report.specs.Timeline.{IsBetween, IsRowBetween}
use Rattle.rept_report.specs.Views.{Carries}
use Rattle.rept_report.specs.Reasons.{IsReached}
use Rattle.rept_report.specs.Reasons.IsReached.{here as reached_here, onward as reached_onward, back as reached_back}
use Rattle.rept_report.specs.Why.{Because, because, fact_of, looked_across, encloses, looked_below, looked_between, IsNearer, IsCarriedBecause}
use Rattle.rept_report.specs.Why.IsCarriedBecause.{last_byte as by_dump, onward as by_onward, back as by_back}
use Rattle.rept_report.proofs.Why.{carries_is}
use Rattle.rept_report.specs.declared.origin.step.Direction.{Direction}
use Rattle.rept_report.specs.declared.origin.step.Direction.TheVariants.{Onward, Back}
use Rattle.rept_report.specs.declared.origin.step.Carriage.{Carriage}
use Rattle.rept_report.specs.Origin.Bridges.{carries_by}
use Rattle.rept_report.specs.Origin.Logs.{time_of, byte_in, links_in}
use Rattle.rept_report.proofs.OriginLemmas.Reached.{as_soon, never}
use Rattle.rept_log.specs.Fronts.{FrontView, setting_in, IsNotOfDump, IsCarriedBy}

-- the ranges by which the row between two moments may not write a byte
module _ {W : Type 0} (S : Setting W) (K : Knowledge) (x : Passage) where
  abbrev IsIn : ℕ → Type 0
  IsIn i = IsBetween (time_of S) x.from x.to i

  encloses_is : (i : ℕ) → encloses S x i ≡ true → IsIn i
  encloses_is i e =
      let one = and_parts (is_some (S.legs.row i)) (eqb (S.moments.before i) x.from && eqb (S.moments.after i) x.to) e in
      let two = and_parts (eqb (S.moments.before i) x.from) (eqb (S.moments.after i) x.to) one.1 in
      record { row = one.0; before = eqb-true (S.moments.before i) x.from two.0; after = eqb-true (S.moments.after i) x.to two.1 }

  is_enclosed : (i : ℕ) → IsIn i → encloses S x i ≡ true
  is_enclosed i h = and_from (is_some (S.legs.row i)) (eqb (S.moments.before i) x.from && eqb (S.moments.after i) x.to) h.row (and_from (eqb (S.moments.before i) x.from) (eqb (S.moments.after i) x.to) (eq-eqb (S.moments.before i) x.from h.before) (eq-eqb (S.moments.after i) x.to h.after))

  looked_none : ((i : ℕ) → IsIn i → ⊥) → (n : ℕ) → looked_below S K x n ≡ []
  looked_none none zero = refl
  looked_none none (suc n) = elim (cases_Bool (encloses S x n)) [
    | inl e ↦ absurd (none n (encloses_is n e))
    | inr e ↦ cond-false (encloses S x n) (looked_across S K n) (looked_below S K x n) e ∙ looked_none none n
  ]

  looked_one : (i : ℕ) → IsIn i → ((j : ℕ) → IsIn j → j ≡ i) → (n : ℕ) → i < n → looked_below S K x n ≡ looked_across S K i
  looked_one i h only zero below = absurd (omega (arith, below))
  looked_one i h only (suc n) below = elim (cases_eq n i) [
    | inl e ↦ cond-true (encloses S x n) (looked_across S K n) (looked_below S K x n) (is_enclosed n (rw e h)) ∙ ap (looked_across S K) e
    | inr ne ↦ elim (cases_Bool (encloses S x n)) [
      | inl e ↦ absurd (ne (only n (encloses_is n e)))
      | inr e ↦ cond-false (encloses S x n) (looked_across S K n) (looked_below S K x n) e ∙ looked_one i h only n (omega (arith, below, ne))
    ]
  ]

  pub between_none : IsRowBetween (time_of S) x.from x.to None → [] ≡ looked_between S K x
  between_none none = sym (looked_none none S.legs.count)

  pub between_one : (i : ℕ) → IsRowBetween (time_of S) x.from x.to (Some i) → i < S.legs.count → looked_across S K i ≡ looked_between S K x
  between_one i (h, only) inside = sym (looked_one i h only S.legs.count inside)

same_byte : {a b : ℕ} → Byte a ≡ Byte b → a ≡ b
same_byte e = cc

module _ {W : Type 0} (f : FrontView W) (x : Fact) (a : ℕ) (cell : x.cell ≡ Byte a) where
  pub dump_because : x.point ≡ f.given.moments.end → f.given.dump a ≡ Some x.value → (why : Because) → why ≡ because 2 [] [] → IsCarriedBecause (setting_in f) f.facts x why
  dump_because at byte why is = by_dump a at cell byte is

  module _ (laws : HasLaws (setting_in f)) where
    -- by a step to the next moment
    pub onward_because : (step : Carriage) → step.way ≡ Onward → IsCarriedBy f (spot x.point a) step → (premise : Fact) → premise ≡ fact_of step.from x.cell x.value → (ranges : List RangePremise) → ranges ≡ looked_between (setting_in f) (told f.facts) (passage a step.from x.point) → (why : Because) → why ≡ because 5 (premise ∷ []) ranges → IsCarriedBecause (setting_in f) f.facts x why
    onward_because step way by premise same ranges listed why is =
        let carries = subst (λ (w : Direction). carries_by (time_of (setting_in f)) (byte_in (setting_in f) f.facts a) x.point (record { from = step.from; way = w }) ≡ true) way by.carries in
        by_onward a step.from x.point refl cell (carries_is (setting_in f) laws (told f.facts) (passage a step.from x.point) carries) by.nearer (is ∙ ap (λ (l : List RangePremise). because 5 (premise ∷ []) l) listed ∙ ap (λ (y : Fact). because 5 (y ∷ []) (looked_between (setting_in f) (told f.facts) (passage a step.from x.point))) (same ∙ ap (λ (c : Cell). fact_of step.from c x.value) cell))

    -- by one from the next moment back
    pub back_because : (step : Carriage) → step.way ≡ Back → IsCarriedBy f (spot x.point a) step → (premise : Fact) → premise ≡ fact_of step.from x.cell x.value → (ranges : List RangePremise) → ranges ≡ looked_between (setting_in f) (told f.facts) (passage a x.point step.from) → (why : Because) → why ≡ because 6 (premise ∷ []) ranges → IsCarriedBecause (setting_in f) f.facts x why
    back_because step way by premise same ranges listed why is =
        let carries = subst (λ (w : Direction). carries_by (time_of (setting_in f)) (byte_in (setting_in f) f.facts a) x.point (record { from = step.from; way = w }) ≡ true) way by.carries in
        by_back a x.point step.from refl cell (carries_is (setting_in f) laws (told f.facts) (passage a x.point step.from) carries) by.nearer (is ∙ ap (λ (l : List RangePremise). because 6 (premise ∷ []) l) listed ∙ ap (λ (y : Fact). because 6 (y ∷ []) (looked_between (setting_in f) (told f.facts) (passage a x.point step.from))) (same ∙ ap (λ (c : Cell). fact_of step.from c x.value) cell))

    -- it is reached by more uses than none, so a step is the last of them
    reached_why : (why : Because) → IsCarriedBecause (setting_in f) f.facts x why → ((x.point ≡ f.given.moments.end) × (f.given.dump a ≡ Some x.value)) ⊎ ((k : ℕ) × IsReached (setting_in f) f.facts a (suc k) x.point × ((j : ℕ) → j ≤ k → IsReached (setting_in f) f.facts a j x.point → ⊥))
    reached_why why (by_dump b at c byte is) = let same : b ≡ a = same_byte (sym c ∙ cell) in inl (at, rw same at byte)
    reached_why why (by_onward b m w at c carries nearer is) =
        let same : b ≡ a = same_byte (sym c ∙ cell) in
        let carries' = subst (λ (d : ℕ). Carries (setting_in f) (told f.facts) (passage d m w)) same carries in
        let nearer' = subst (λ (d : ℕ). IsNearer (setting_in f) f.facts d m w) same nearer in
        inr (nearer'.uses, subst (IsReached (setting_in f) f.facts a (suc nearer'.uses)) (sym at) (reached_onward nearer'.uses m w carries' nearer'.here), λ j le r. nearer'.not_there j le (subst (IsReached (setting_in f) f.facts a j) at r))
    reached_why why (by_back b m w at c carries nearer is) =
        let same : b ≡ a = same_byte (sym c ∙ cell) in
        let carries' = subst (λ (d : ℕ). Carries (setting_in f) (told f.facts) (passage d m w)) same carries in
        let nearer' = subst (λ (d : ℕ). IsNearer (setting_in f) f.facts d w m) same nearer in
        inr (nearer'.uses, subst (IsReached (setting_in f) f.facts a (suc nearer'.uses)) (sym at) (reached_back nearer'.uses m w carries' nearer'.here), λ j le r. nearer'.not_there j le (subst (IsReached (setting_in f) f.facts a j) at r))

    -- where no moment has it by itself, no rule carries it
    pub not_carried : IsNearest (links_in (setting_in f) f.facts a) x.point None → (why : Because) → IsCarriedBecause (setting_in f) f.facts x why → ⊥
    not_carried none why b = elim (reached_why why b) [
      | inl (at, byte) ↦ never (setting_in f) laws f.facts a x.point none zero (reached_here x.point (inr (at, (x.value, byte))))
      | inr (k, reached, sooner) ↦ never (setting_in f) laws f.facts a x.point none (suc k) reached
    ]

    -- where this one has it by itself, the dump's rule alone may
    pub only_dump : (found : NearestValue) → IsNearest (links_in (setting_in f) f.facts a) x.point (Some found) → found.links ≡ 0 → IsNotOfDump f x a → (why : Because) → IsCarriedBecause (setting_in f) f.facts x why → ⊥
    only_dump found near none not_dump why b = elim (reached_why why b) [
      | inl (at, byte) ↦ not_dump at byte
      | inr (k, reached, sooner) ↦ sooner 0 (omega arith) (subst (λ (j : ℕ). IsReached (setting_in f) f.facts a j x.point) none (as_soon (setting_in f) laws f.facts a x.point found near))
    ]
