-- What the first span at or after a number says.
use Rattle.std.proofs.Common.{◌≡◌, ℕ, ◌+◌, ◌<◌, ◌≤◌, ◌≢◌, List, length, Some, ap, inl, inr, arith}
use Rattle.std.proofs.lemmas.Bool.{cases_lt}
use Rattle.rept_versions.specs.declared.span.Span.{Span}
use Rattle.rept_versions.specs.Line.{nth, value_at, IsRising, AreSpansJoined, LiesInSpan, Misses, IsNextOn}
use Rattle.rept_versions.proofs.Lines.{value_lies, value_none, same_or}
use Rattle.rept_versions.proofs.Spreading.{not_above, not_under}

module _ (ss : List Span) (rising : IsRising ss) (joined : AreSpansJoined ss) where
  within : (i q : ℕ) → i < length ss → (nth ss i).low ≤ q → q ≤ (nth ss i).high → value_at ss q ≡ Some (nth ss i).value
  within i q at low high = value_lies ss rising q i (record { within = at; from = low; to = high })

  ends : (i : ℕ) → i < length ss → value_at ss ((nth ss i).high + 1) ≢ Some (nth ss i).value
  ends i at = not_above (record { spans = ss; room = 0 }) (record { spans = ss; room = 0 }) rising i (nth ss i).low (record { within = at; from = omega arith; to = rising.whole i at }) joined

  begins : (i : ℕ) → i < length ss → (q : ℕ) → q + 1 ≡ (nth ss i).low → value_at ss q ≢ Some (nth ss i).value
  begins i at q e = not_under (record { spans = ss; room = 0 }) (record { spans = ss; room = 0 }) rising i (nth ss i).low (record { within = at; from = omega arith; to = rising.whole i at }) joined q e

  pub next_lies : (i k : ℕ) → LiesInSpan ss k i → IsNextOn ss k (nth ss i)
  next_lies i k at = record {
    ordered = rising.whole i at.within;
    reaches = at.to;
    value = λ q low high. within i q at.within low high;
    free = λ q le lt. absurd (omega (arith, le, lt, at.from));
    begins = begins i at.within;
    ends = ends i at.within;
  }

  pub next_misses : (i k : ℕ) → Misses ss k i → i < length ss → IsNextOn ss k (nth ss i)
  next_misses i k m at = record {
    ordered = rising.whole i at;
    reaches = omega (arith, rising.whole i at, m.parts.above i (omega arith) at);
    value = λ q low high. within i q at low high;
    free = λ q le lt. value_none ss q (λ j in_range from to. elim (cases_lt j i) [
      | inl less ↦ omega (arith, m.below j less, le, to)
      | inr more ↦ elim (same_or j i) [
        | inl e ↦ (let low = ap (λ x. (nth ss x).low) e in omega (arith, low, from, lt))
        | inr ne ↦ omega (arith, rising.apart i j (omega (arith, more, ne)) in_range, rising.whole i at, from, lt)
      ]
    ]);
    begins = begins i at;
    ends = ends i at;
  }
