-- From the last writer of a byte that a report names one goes on to those before it.
use Rattle.std.proofs.Common.{◌≡◌, ◌≢◌, ℕ, zero, suc, ◌+◌, ◌-◌, ◌<◌, ◌≤◌, Bool, true, false, length, Option, Some, None, slice_get, inl, inr, refl, sym, ap, subst, ◌∙◌, arith}
use Rattle.std.specs.Prelude.{min, IfNone, IfSome}
use Rattle.std.specs.Option.{option_and_then}
use Rattle.std.proofs.lemmas.Bool.{cases_lt}
use Rattle.rept_report.specs.declared.writer.Writer.{Writer}
use Rattle.rept_report.specs.declared.writer.Writer.TheVariants as writer
use Rattle.rept_findings.specs.LastWriters.{AreLastWriters, named_row}
use Rattle.rept_findings.specs.Shown.{IsThreadPoint, Shown}
use Rattle.rept_findings.specs.Texts.{at}
use Rattle.rept_infer.specs.Holding.{Holding}
use Rattle.rept_found.specs.Inferred.Writing.{is_line, HasOneLine, names_step, or_writer, refined_row, refined_step, step_below, told_if, writer_by}
use Rattle.rept_found.proofs.InferredLemmas.Greatest.{not_named, silent, skip}
use Rattle.rept_found.proofs.InferredLemmas.Lined.{line_of}

same_step : {i j : ℕ} → Some i ≡ Some j → i ≡ j
same_step e = cc

never : {j : ℕ} → None ≡ Some j → ⊥
never e = cc

min_low : (i n : ℕ) → i ≤ n → min i n ≡ i
min_low i n le = grind (arith, le)

min_high : (i n : ℕ) → n ≤ i → min i n ≡ n
min_high i n le = grind (arith, le)

module _ (h : Holding) (s : Shown) (line : is_line s ≡ true) (a : ℕ) (laws : AreLastWriters s 0 a) (p : ℕ) (last : p ≤ length (s.rows 0)) where
  abbrev lines : HasOneLine s
  lines = line_of s line

  inside : IsThreadPoint s (at 0 p)
  inside = (let one = lines.threads in omega (arith, one), last)

  at_moment : (q : ℕ) → q ≤ p → s.moment (s.first 0 + q) ≡ q
  at_moment q le =
      let zero_first = lines.first in
      let number : s.first 0 + q ≡ q = omega (arith, zero_first) in
      ap s.moment number ∙ lines.moment q (omega (arith, le, last))

  -- a step that isn't named at the point after it
  quiet : (k : ℕ) → names_step (s.writer (suc k) a) k ≡ false → refined_step h s a k ≡ None
  quiet k e = ap (λ (b : Bool). option_and_then (refined_row h a k (slice_get (s.rows 0) k)) (told_if b (s.writer (suc k) a))) e

  none_before : s.writer p a ≡ writer.None → (k : ℕ) → k < p → refined_step h s a k ≡ None
  none_before e k less =
      let here : s.writer (s.moment (s.first 0 + p)) a ≡ writer.None = ap (λ m. s.writer m a) (at_moment p (omega arith)) ∙ e in
      let there : s.writer (suc k) a ≡ writer.None = sym (ap (λ m. s.writer m a) (at_moment (suc k) (omega (arith, less)))) ∙ laws.none (suc k) p inside here (omega (arith, less)) in
      quiet k (ap (λ (w : Writer). names_step w k) there)

  pub walk_none : s.writer p a ≡ writer.None → writer_by h s p a ≡ writer.None
  walk_none e = silent (refined_step h s a) p (none_before e)

  between : (i : ℕ) → named_row (s.writer p a) ≡ Some i → i < p → (k : ℕ) → i < k → k < p → refined_step h s a k ≡ None
  between i e less k low high =
      let own = lines.thread i (omega (arith, less, last)) in
      let there : named_row (s.writer (s.moment (s.first 0 + p)) a) ≡ Some i = ap (λ m. named_row (s.writer m a)) (at_moment p (omega arith)) ∙ e in
      let after : (s.point i).point < suc k = subst (λ (n : ℕ). n < suc k) (sym (lines.point i (omega (arith, less, last)))) (omega (arith, low)) in
      let named : named_row (s.writer (suc k) a) ≡ Some i = sym (ap (λ m. named_row (s.writer m a)) (at_moment (suc k) (omega (arith, high)))) ∙ laws.since i (suc k) p inside own there after (omega (arith, high)) in
      quiet k (not_named (s.writer (suc k) a) k (λ is. let same : i ≡ k = same_step (sym named ∙ is) in omega (arith, same, low)))

  -- the step at which to look
  pub record IsNext (j : ℕ) : Type 0 where
    pub less : j < p
    pub same : writer_by h s p a ≡ writer_by h s (suc j) a

  one_before : 0 < p → IsNext (p - 1)
  one_before some = record { less = omega (arith, some); same = let e : p ≡ suc (p - 1) = omega (arith, some) in ap (λ n. writer_by h s n a) e }

  named_before : 0 < p → (i : ℕ) → named_row (s.writer p a) ≡ Some i → IsNext (min i (p - 1))
  named_before some i e = elim (cases_lt i p) [
    | inl less ↦ subst IsNext (sym (min_low i (p - 1) (omega (arith, less)))) (record { less = less; same = skip (refined_step h s a) p i less (between i e less) })
    | inr past ↦ subst IsNext (sym (min_high i (p - 1) (omega (arith, past)))) (one_before some)
  ]

  pub walk_on : 0 < p → (j : ℕ) (w : Writer) → s.writer p a ≡ w → step_below w p ≡ Some j → IsNext j
  walk_on some j (writer.Writes i) is e = subst IsNext (same_step e) (named_before some i (ap named_row is))
  walk_on some j (writer.MayWrite i) is e = subst IsNext (same_step e) (named_before some i (ap named_row is))
  walk_on some j writer.Several is e = subst IsNext (same_step e) (one_before some)
  walk_on some j writer.None is e = absurd (never e)

  -- what is told of it, or else where to go on
  pub found_next : (j : ℕ) → IsNext j → (o : Option Writer) → o ≡ refined_step h s a j → IfSome o (λ w. writer_by h s p a ≡ w)
  found_next j next None e = tt
  found_next j next (Some w) e = next.same ∙ ap (λ (o : Option Writer). or_writer o (writer_by h s j a)) (sym e)

  pub onward_next : (j : ℕ) → IsNext j → (o : Option Writer) → o ≡ refined_step h s a j → IfNone o ((j < p) × (writer_by h s p a ≡ writer_by h s j a))
  onward_next j next None e = (next.less, next.same ∙ ap (λ (o : Option Writer). or_writer o (writer_by h s j a)) (sym e))
  onward_next j next (Some w) e = tt

pub below_none : (w : Writer) (p : ℕ) → step_below w p ≡ None → w ≡ writer.None
below_none (writer.Writes i) p e = let bad : ⊥ = cc in absurd bad
below_none (writer.MayWrite i) p e = let bad : ⊥ = cc in absurd bad
below_none writer.Several p e = let bad : ⊥ = cc in absurd bad
below_none writer.None p e = refl
