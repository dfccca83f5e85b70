-- From what `up` and `down` do to what `carry` says.
use Rattle.std.proofs.Common.{Option, ◌≡◌, ℕ, suc, ◌+◌, ◌-◌, ◌<◌, ◌≤◌, length, Some, None, refl, sym, ◌∙◌, ap, subst, inl, inr, arith}
use Rattle.std.proofs.lemmas.Bool.{cases_lt}
use Rattle.std.proofs.lemmas.Bool.Decides.{nat_tests}
use Rattle.rept_versions.specs.Line.{nth, value_at, IsRising, AreSpansJoined, LiesInSpan, Line, Filled, StoppedBelow, FilledDown, StoppedDown}
use Rattle.rept_versions.specs.Facts.{Between}
use Rattle.rept_versions.specs.Moves.{SpreadsOn, StopsOn}
use Rattle.rept_versions.proofs.Lines.{value_lies, found, same_or}

some_same : (v w : ℕ) → Some v ≡ Some w → w ≡ v
some_same v w e = grind (arith, e)

upward_order : (from to q : ℕ) → from ≤ to → Between from to q → record { from : from ≤ q; to : q ≤ to }
upward_order from to q le (inl b) = record { from = b.0; to = b.1 }
upward_order from to q le (inr b) = record { from = omega (arith, le, b.0, b.1); to = omega (arith, le, b.0, b.1) }

downward_order : (from to q : ℕ) → to ≤ from → Between from to q → record { to : to ≤ q; from : q ≤ from }
downward_order from to q le (inr b) = record { to = b.0; from = b.1 }
downward_order from to q le (inl b) = record { to = omega (arith, le, b.0, b.1); from = omega (arith, le, b.0, b.1) }

module _ (old new : Line) (rising : IsRising old.spans) (i from : ℕ) (at : LiesInSpan old.spans from i) where
  h : ℕ
  h = (nth old.spans i).high

  in_it : (q : ℕ) → (nth old.spans i).low ≤ q → q ≤ (nth old.spans i).high → value_at old.spans q ≡ Some (nth old.spans i).value
  in_it q low high = value_lies old.spans rising q i (record { within = at.within; from = low; to = high })

  pub up_spreads : (to : ℕ) → from ≤ to → Filled old new (nth old.spans i).high to (nth old.spans i).value → SpreadsOn old new from to (nth old.spans i).value
  up_spreads to le f = record {
    here = λ q between. let o = upward_order from to q le between in grind (arith, nat_tests, f.reads q, in_it q, o.from, o.to, at.from, at.to);
    free = λ q w between e. let o = upward_order from to q le between in elim (cases_lt (nth old.spans i).high q) [
      | inl over ↦ f.free q w over o.to e
      | inr under ↦ some_same (nth old.spans i).value w (sym (in_it q (omega (arith, at.from, o.from)) under) ∙ e)
    ];
    others = λ q out. elim (cases_lt (nth old.spans i).high q) [
      | inl over ↦ elim (cases_lt to q) [
        | inl past ↦ f.reads q ∙ grind (arith, nat_tests, past)
        | inr within ↦ absurd (out (inl (omega (arith, at.to, over), within)))
      ]
      | inr under ↦ f.reads q ∙ grind (arith, nat_tests, under)
    ];
    room = f.room;
    len = f.len;
  }

  pub down_spreads : (to : ℕ) → to ≤ from → FilledDown old new to (nth old.spans i).low (nth old.spans i).value → SpreadsOn old new from to (nth old.spans i).value
  down_spreads to le f = record {
    here = λ q between. let o = downward_order from to q le between in grind (arith, nat_tests, f.reads q, in_it q, o.from, o.to, at.from, at.to);
    free = λ q w between e. let o = downward_order from to q le between in elim (cases_lt q (nth old.spans i).low) [
      | inl under ↦ f.free q w o.to under e
      | inr over ↦ some_same (nth old.spans i).value w (sym (in_it q over (omega (arith, at.to, o.from))) ∙ e)
    ];
    others = λ q out. elim (cases_lt q (nth old.spans i).low) [
      | inl under ↦ elim (cases_lt q to) [
        | inl past ↦ f.reads q ∙ grind (arith, nat_tests, past)
        | inr within ↦ absurd (out (inr (within, omega (arith, at.from, under))))
      ]
      | inr over ↦ f.reads q ∙ grind (arith, nat_tests, over)
    ];
    room = f.room;
    len = f.len;
  }

  pub up_stops : (to stop w : ℕ) → from ≤ to → StoppedBelow old new (nth old.spans i).high to (nth old.spans i).value stop → value_at new.spans stop ≡ Some w → StopsOn old new from to (nth old.spans i).value stop w
  up_stops to stop w le s e =
      let other : value_at old.spans stop ≡ Some w = grind (arith, nat_tests, s.filled.reads stop, s.over, e) in
      let same : w ≡ s.other.0 = some_same s.other.0 w (sym s.other.1 ∙ other) in
      record {
        before = stop - 1;
        next = inl (omega (arith, s.over));
        within = inl (omega (arith, s.over, at.to), s.under);
        toward = inl (omega (arith, s.over, at.to), omega (arith, s.under));
        spreads = up_spreads (stop - 1) (omega (arith, s.over, at.to)) s.filled;
        other = other;
        differs = λ q. s.other.2 (sym same ∙ q);
      }

  pub down_stops : (to stop w : ℕ) → to ≤ from → StoppedDown old new to (nth old.spans i).low (nth old.spans i).value stop → value_at new.spans stop ≡ Some w → StopsOn old new from to (nth old.spans i).value stop w
  down_stops to stop w le s e =
      let other : value_at old.spans stop ≡ Some w = grind (arith, nat_tests, s.filled.reads stop, s.under, e) in
      let same : w ≡ s.other.0 = some_same s.other.0 w (sym s.other.1 ∙ other) in
      record {
        before = stop + 1;
        next = inr refl;
        within = inr (s.over, omega (arith, s.under, at.from));
        toward = inr (omega (arith, s.over), omega (arith, s.under, at.from));
        spreads = down_spreads (stop + 1) (omega (arith, s.under, at.from)) s.filled;
        other = other;
        differs = λ q. s.other.2 (sym same ∙ q);
      }

  -- what stands at the stop is read
  pub up_some : (to stop : ℕ) → StoppedBelow old new (nth old.spans i).high to (nth old.spans i).value stop → value_at new.spans stop ≡ None → ⊥
  up_some to stop s e = let o = s.other.1 in let r = s.filled.reads stop in let v = s.over in grind (arith, nat_tests, o, r, v, e)

  pub down_some : (to stop : ℕ) → StoppedDown old new to (nth old.spans i).low (nth old.spans i).value stop → value_at new.spans stop ≡ None → ⊥
  down_some to stop s e = let o = s.other.1 in let r = s.filled.reads stop in let v = s.under in grind (arith, nat_tests, o, r, v, e)

  -- next to a span its value isn't read
  module _ (joined : AreSpansJoined old.spans) where
    pub not_above : value_at old.spans ((nth old.spans i).high + 1) ≡ Some (nth old.spans i).value → ⊥
    not_above e =
        let f = found old.spans ((nth old.spans i).high + 1) (nth old.spans i).value e in
        elim (cases_lt i f.0) [
          | inr le ↦ elim (same_or f.0 i) [
            | inl e ↦ (let high = ap (λ j. (nth old.spans j).high) e in omega (arith, high, f.1.to))
            | inr ne ↦ omega (arith, rising.apart f.0 i (omega (arith, le, ne)) at.within, f.1.to, rising.whole i at.within)
          ]
          | inl more ↦ elim (same_or f.0 (suc i)) [
            | inl e ↦ joined i (omega (arith, e, f.1.within)) (subst (λ j. (nth old.spans i).high + 1 ≡ (nth old.spans j).low) e (omega (arith, f.1.from, rising.apart i f.0 more f.1.within))) (subst (λ j. (nth old.spans i).value ≡ (nth old.spans j).value) e (sym f.2))
            | inr ne ↦ (let lt : suc i < length old.spans = omega (arith, more, f.1.within) in omega (arith, rising.apart i (suc i) (omega arith) lt, rising.whole (suc i) lt, rising.apart (suc i) f.0 (omega (arith, more, ne)) f.1.within, f.1.from))
          ]
        ]

    pub not_under : (k : ℕ) → k + 1 ≡ (nth old.spans i).low → value_at old.spans k ≡ Some (nth old.spans i).value → ⊥
    not_under k is e =
        let f = found old.spans k (nth old.spans i).value e in
        elim (cases_lt f.0 i) [
          | inr le ↦ elim (same_or f.0 i) [
            | inl e ↦ (let low = ap (λ j. (nth old.spans j).low) e in omega (arith, low, f.1.from, is))
            | inr ne ↦ omega (arith, rising.apart i f.0 (omega (arith, le, ne)) f.1.within, f.1.from, rising.whole i at.within, is)
          ]
          | inl less ↦ elim (same_or (suc f.0) i) [
            | inl e ↦ joined f.0 (omega (arith, e, at.within)) (subst (λ j. (nth old.spans f.0).high + 1 ≡ (nth old.spans j).low) (sym e) (omega (arith, f.1.to, is, rising.apart f.0 i less at.within))) (subst (λ j. (nth old.spans f.0).value ≡ (nth old.spans j).value) (sym e) f.2)
            | inr ne ↦ (let lt : suc f.0 < length old.spans = omega (arith, less, at.within) in omega (arith, rising.apart f.0 (suc f.0) (omega arith) lt, rising.whole (suc f.0) lt, rising.apart (suc f.0) i (omega (arith, less, ne)) at.within, f.1.to, is))
          ]
        ]

    none_or : (o : Option ℕ) (v : ℕ) → (o ≡ Some v → ⊥) → ((w : ℕ) → o ≡ Some w → w ≡ v) → o ≡ None
    none_or None v isnt same = refl
    none_or (Some w) v isnt same = absurd (isnt (ap Some (same w refl)))

    pub up_new : (to : ℕ) → (nth old.spans i).high < to → Filled old new (nth old.spans i).high to (nth old.spans i).value → (q : ℕ) × Between from to q × (value_at old.spans q ≡ None)
    up_new to lt f = ((nth old.spans i).high + 1, inl (omega (arith, at.to), omega (arith, lt)), none_or (value_at old.spans ((nth old.spans i).high + 1)) (nth old.spans i).value not_above (λ w. f.free ((nth old.spans i).high + 1) w (omega arith) (omega (arith, lt))))

    pub down_new : (to : ℕ) → to < (nth old.spans i).low → FilledDown old new to (nth old.spans i).low (nth old.spans i).value → (q : ℕ) × Between from to q × (value_at old.spans q ≡ None)
    down_new to lt f = ((nth old.spans i).low - 1, inr (omega (arith, lt), omega (arith, at.from)), none_or (value_at old.spans ((nth old.spans i).low - 1)) (nth old.spans i).value (not_under ((nth old.spans i).low - 1) (omega (arith, lt))) (λ w. f.free ((nth old.spans i).low - 1) w (omega (arith, lt)) (omega (arith, lt))))

-- nothing to do
pub up_same : (old : Line) → (i to : ℕ) → to ≤ (nth old.spans i).high → Filled old old (nth old.spans i).high to (nth old.spans i).value
up_same old i to le = record { reads = λ q. grind (arith, nat_tests, le); free = λ q w over under e. omega (arith, le, over, under); room = refl; len = omega arith }

pub down_same : (old : Line) → (i to : ℕ) → (nth old.spans i).low ≤ to → FilledDown old old to (nth old.spans i).low (nth old.spans i).value
down_same old i to le = record { reads = λ q. grind (arith, nat_tests, le); free = λ q w over under e. omega (arith, le, over, under); room = refl; len = omega arith }
