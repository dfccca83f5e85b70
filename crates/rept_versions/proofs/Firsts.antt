-- The first span that ends at a number or later.
use Rattle.std.proofs.Common.{◌≡◌, ℕ, ◌+◌, ◌<◌, ◌≤◌, List, length, Option, Some, None, sym, subst, ◌∙◌, ap, inl, inr, arith}
use Rattle.std.proofs.lemmas.Bool.{cases_lt}
use Rattle.rept_versions.specs.declared.span.Span.{Span}
use Rattle.rept_versions.specs.Line.{nth, value_at, IsRising, AreSpansJoined, IsFirst, FirstAt, LiesInSpan, Misses, IsNextOn}
use Rattle.rept_versions.proofs.Lines.{EndBelow, gap_after, value_lies, value_misses, value_none, same_or}
use Rattle.rept_versions.proofs.Nexts.{next_lies, next_misses}

-- past the last span nothing is read
pub first_none : (ss : List Span) (k : ℕ) → IsFirst ss k (length ss) → (q : ℕ) → k ≤ q → value_at ss q ≡ None
first_none ss k first q le = value_none ss q (λ j within from to. omega (arith, first.below j within, le, to))

module _ (ss : List Span) (rising : IsRising ss) (k i : ℕ) where
  pub ended : i < length ss → (nth ss i).high < k → EndBelow ss (i + 1) k
  ended lt le j before = gap_after ss rising k i (omega (arith, lt)) le j (omega (arith, before))

  pub lies : (s : Span) → FirstAt ss k i s → s.low ≤ k → LiesInSpan ss k i
  lies s first le = record { within = first.within; from = omega (arith, le, ap (λ s. s.low) first.span); to = first.first.above i (omega arith) first.within }

  pub misses : (s : Span) → FirstAt ss k i s → k < s.low → Misses ss k i
  misses s first over =
      let low = ap (λ s. s.low) first.span in
      record {
        parts = record {
          bound = first.first.bound;
          below = λ j lt. omega (arith, rising.whole j (omega (arith, lt, first.within)), first.first.below j lt);
          above = λ j from within. elim (same_or j i) [
            | inl e ↦ (let here = ap (λ m. (nth ss m).low) e in omega (arith, here, low, over))
            | inr ne ↦ omega (arith, rising.apart i j (omega (arith, from, ne)) within, rising.whole i first.within, low, over)
          ];
        };
        below = first.first.below;
      }

  pub value_first : (s : Span) → FirstAt ss k i s → s.low ≤ k → ◌≡◌ {A = Option ℕ} (Some s.value) (value_at ss k)
  value_first s first le = ap (λ s. Some s.value) first.span ∙ sym (value_lies ss rising k i (lies s first le))

  pub value_gap : (s : Span) → FirstAt ss k i s → k < s.low → ◌≡◌ {A = Option ℕ} None (value_at ss k)
  value_gap s first over = sym (value_misses ss k i (misses s first over))

  pub next_first : AreSpansJoined ss → (s : Span) → FirstAt ss k i s → IsNextOn ss k s
  next_first joined s first = subst (λ s. IsNextOn ss k s) (sym first.span) (elim (cases_lt k s.low) [
    | inl over ↦ next_misses ss rising joined i k (misses s first over) first.within
    | inr le ↦ next_lies ss rising joined i k (lies s first le)
  ])
