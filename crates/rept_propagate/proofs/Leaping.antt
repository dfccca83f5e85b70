-- A byte's value goes at once to all numbers that come from known ones, up to a row that may write
-- it.
use Rattle.std.proofs.Common.{◌≡◌, ℕ, ◌+◌, ◌-◌, ◌<◌, ◌≤◌, ◌^◌, ◌⊎◌, true, Option, Some, None, inl, inr, sym, subst, arith, max, min}
use Rattle.std.specs.Option.{is_some}
use Rattle.std.proofs.lemmas.Bool.{cases_lt, false≢true}
use Rattle.rept_reason.specs.declared.fact.Cell.TheVariants.{Byte}
use Rattle.rept_report.specs.declared.paths.NumberWindow.{NumberWindow}
use Rattle.rept_report.specs.Reach.Reaching.{IsLit, IsReachedUp, IsReachedDown}
use Rattle.rept_writing.specs.Hits.{IsFreeSince, IsFreeUntil}
use Rattle.rept_report.specs.Spots.{passage}
use Rattle.rept_versions.specs.declared.facts.ValueStretch.{ValueStretch}
use Rattle.rept_versions.specs.Facts.{Nexts}
use Rattle.rept_facts.specs.declared.leap.ByteLeap.{ByteLeap}
use Rattle.rept_facts.specs.State.{AnalysisState}
use Rattle.rept_facts.specs.Kept.{IsKept}
use Rattle.rept_facts.specs.Inferring.{Knows, IsTracked, AreWritings, IsBridged, IsLeapUp, IsLeapDown, IsLed}
use Rattle.rept_facts.proofs.Listing.{spared_by}

module _ {W : Type 0} (s : AnalysisState W) (x : ByteLeap) (v : ℕ) (order : x.first ≤ x.last) (known : (q : ℕ) → x.first ≤ q → q ≤ x.last → Knows q (Byte x.address) v s) where
  -- what goes up is led
  pub led_up : IsLeapUp x s → IsLed (record { address = x.address; from = x.last; to = x.to; value = v }) s
  led_up leap q (inl between) ne =
      let low = between.0 in
      let way = leap.ways q (omega (arith, low, ne)) between.1 in
      record {
        source = way.0;
        known =
            elim (cases_lt x.last way.0) [
              | inl past ↦ inr (inl (omega (arith, past), way.2))
              | inr inside ↦ inl (known way.0 way.1 inside)
            ];
        bridged = inl way.3;
      }
  led_up leap q (inr between) ne = let from = leap.from in let low = between.0 in let high = between.1 in absurd (ne (omega (arith, from, low, high)))

  -- so is what goes down
  pub led_down : IsLeapDown x s → IsLed (record { address = x.address; from = x.first; to = x.to; value = v }) s
  led_down leap q (inr between) ne =
      let high = between.1 in
      let way = leap.ways q between.0 (omega (arith, high, ne)) in
      record {
        source = way.0;
        known =
            elim (cases_lt way.0 x.first) [
              | inl before ↦ inr (inr (way.1, omega (arith, before)))
              | inr inside ↦ inl (known way.0 inside way.2)
            ];
        bridged = inr way.3;
      }
  led_down leap q (inl between) ne = let from = leap.from in let low = between.0 in let high = between.1 in absurd (ne (omega (arith, from, low, high)))

-- between a number and a next one where no row of the list may act that may write the byte
module _ {W : Type 0} (s : AnalysisState W) (h : AreWritings s) (a : ℕ) (small : a < 2 ^ 32) (number since until : ℕ) (free_since : IsFreeSince s.work.writing number a since) (free_until : IsFreeUntil s.work.writing number a until) where
  pub bridged_free : (m k : ℕ) → IsLit s.path.given.moments m k → since ≤ m → k < until → IsBridged (passage a m k) s
  bridged_free m k lit late early = record {
    next = lit.next;
    light = lit.light;
    spared = λ i may_act. spared_by s h a small i (λ j w found row hits.
        let inside = (h.barriers.each j w found).extent m k lit.next (subst (λ (n : ℕ). s.path.given.moments.may_act n m k ≡ true) (sym row) may_act) in
        let above = inside.0 in
        let below = inside.1 in
        elim (cases_lt w.at number) [
          | inl former ↦ let ends = free_since j w found former hits in omega (arith, ends, late, above)
          | inr later ↦ let begins = free_until j w found later hits in omega (arith, begins, below, early)
        ]);
  }

-- how far up it goes
module _ {W : Type 0} (s : AnalysisState W) (h : AreWritings s) (a : ℕ) (small : a < 2 ^ 32) (first last since until : ℕ) (free_since : IsFreeSince s.work.writing last a since) (free_until : IsFreeUntil s.work.writing last a until) where
  pub leaps_up : (known : NumberWindow) (n : ℕ) → known.from ≡ max since first → known.to ≡ last + 1 → last + 1 < until → IsReachedUp s.path.given.moments known (until - 1) n → IsLeapUp (record { address = a; first = first; last = last; to = n }) s
  leaps_up known n from to later reached = record {
    from = let x = reached.from in omega (arith, x, to);
    inside = reached.inside;
    ways = λ k past most.
        let way = reached.ways k (omega (arith, to, past)) most in
        let low = way.1 in
        (way.0, omega (arith, from, low), way.2, bridged_free s h a small last since until free_since free_until way.0 k way.3 (omega (arith, from, low)) (early k past most reached.to));
  }
    where
      early : (k : ℕ) → last < k → k ≤ n → (n ≤ until - 1) ⊎ (n + 1 ≡ known.to) → k < until
      early k past most (inl within) = omega (arith, within, most, later)
      early k past most (inr none) = absurd (omega (arith, none, to, past, most))

-- how far down it goes
module _ {W : Type 0} (s : AnalysisState W) (h : AreWritings s) (a : ℕ) (small : a < 2 ^ 32) (first last since until : ℕ) (free_since : IsFreeSince s.work.writing first a since) (free_until : IsFreeUntil s.work.writing first a until) where
  pub leaps_down : (known : NumberWindow) (n : ℕ) → known.from ≡ first → known.to ≡ min until (last + 1) → since < first → IsReachedDown s.path.given.moments known since n → IsLeapDown (record { address = a; first = first; last = last; to = n }) s
  leaps_down known n from to earlier reached = record {
    from = let x = reached.to in omega (arith, x, from);
    ways = λ k least before.
        let way = reached.ways k least (omega (arith, from, before)) in
        let high = way.2 in
        (way.0, way.1, omega (arith, to, high), bridged_free s h a small first since until free_since free_until k way.0 way.3 (late k least before reached.from) (omega (arith, to, high)));
  }
    where
      late : (k : ℕ) → n ≤ k → k < first → (since ≤ n) ⊎ (n ≡ known.from) → since ≤ k
      late k least before (inl within) = omega (arith, within, least)
      late k least before (inr none) = absurd (omega (arith, none, from, least, before))

-- a byte with a stretch is tracked
pub tracked_by : {W : Type 0} (s : AnalysisState W) → IsKept s → (a : ℕ) (o : Option ValueStretch) → Nexts s.known.store.fact a 0 o → is_some o ≡ true → IsTracked a s
tracked_by s kept a None h some = absurd (false≢true some)
tracked_by s kept a (Some stretch) h some = let ordered = h.run.ordered in kept.listed stretch.first a stretch.value (h.run.value stretch.first (omega arith) ordered)
