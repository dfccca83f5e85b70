-- Where sets of one kind are never wider than those of another and no less is known, no range is
-- wider.
use Rattle.std.proofs.Common.{◌≡◌, ℕ, ◌<◌, ◌^◌, Bool, true, false, cond, eqb, Option, Some, None, inl, inr, refl, arith}
use Rattle.rept_partial.specs.Sets.{Sets, AreLawful}
use Rattle.rept_reason.specs.declared.fact.Cell.TheVariants.{Register}
use Rattle.rept_reason.specs.Facts.{Knowledge, register_fact}
use Rattle.rept_span.specs.Finer.{kind, IsFiner}
use Rattle.rept_span.specs.Moves.{Moves, AreMoves}
use Rattle.rept_span.specs.Ranges.{range}
use Rattle.rept_span.proofs.FinerLaws.{sets_within}
use Rattle.rept_span.proofs.RangeLaws.{HasIn, RegistersExtend, range_narrower}
use Rattle.rept_report.specs.Beside.{by_other_sets}
use Rattle.rept_report.specs.Conclusions.{HasWords}
use Rattle.rept_report.specs.Setting.{Setting, way_of}
use Rattle.rept_report.specs.Views.{bounds}
use Rattle.rept_report.proofs.ViewLaws.{LiesIn, exact_bounds, exact_cases, only_in, wide_bounds}

none_some : {v : ℕ} → None ≡ Some v → ⊥
none_some e = cc

-- what is known of a register other than x0 is a word
fact_small : (K : Knowledge) → HasWords K → (p r n : ℕ) → register_fact K p r ≡ Some n → n < 2 ^ 32
fact_small K words p r n e = if_small (eqb r 0) (K p (Register r)) (words p r n) e
  where
    if_small : (b : Bool) (k : Option ℕ) → (k ≡ Some n → n < 2 ^ 32) → cond b None k ≡ Some n → n < 2 ^ 32
    if_small true k h e = absurd (none_some e)
    if_small false k h e = h e

module _ {V W : Type 0} (S : Setting V) (o : Sets W) (m : Moves W) (laws : AreLawful S.sets) (wide_laws : AreLawful o) (covers : AreMoves o m) (finer : IsFiner (kind S.sets S.moves) (kind o m)) where
  abbrev T : Setting W
  T = by_other_sets S o m

  bounds_lie : (x : Option V) (y : Option W) → ((v : ℕ) → HasIn S.sets x v → HasIn o y v) → (x ≡ None → ⊥) → LiesIn (bounds S.sets x) (bounds o y)
  bounds_lie None y h full = absurd (full refl)
  bounds_lie (Some a) None h full = let one = laws.some a in absurd (h one.0 one.1)
  bounds_lie (Some a) (Some b) h full =
      elim (exact_cases o wide_laws b) [
        | inr (v, e) ↦
            let same = laws.is_exact a v (λ u k. wide_laws.as_exact b v u e (h u k)) in
            let x = exact_bounds o wide_laws b v e in
            let y = exact_bounds S.sets laws a v same in
            (rw (x.0, y.0) (omega arith), rw (x.1, y.1) (omega arith))
        | inl wide ↦
            let x = wide_bounds o wide_laws b wide in
            elim (exact_cases S.sets laws a) [
              | inr (u, e) ↦ let y = exact_bounds S.sets laws a u e in let c = wide_laws.bounds b u (h u (only_in S.sets laws a u e)) in (rw (x.0, y.0) c.0, rw (x.1, y.1) c.1)
              | inl wide' ↦ let y = wide_bounds S.sets laws a wide' in (rw (x.0, y.0) (finer.lower a b h), rw (x.1, y.1) (finer.upper a b h))
            ]
      ]

  pub no_wider : (K L : Knowledge) → HasWords L → RegistersExtend K L → (p r : ℕ) → (range (way_of S) L p r ≡ None → ⊥) → LiesIn (bounds S.sets (range (way_of S) L p r)) (bounds o (range (way_of T) K p r))
  no_wider K L words more p r full =
      bounds_lie (range (way_of S) L p r) (range (way_of T) K p r)
      (λ v h. range_narrower (way_of T) wide_laws covers K L more p r v (sets_within (way_of S) (way_of T) laws wide_laws finer refl L (fact_small L words) p r v h)) full
