-- The second step is the last writer of each byte after it.
use Rattle.std.proofs.Common.{◌≡◌, ℕ, ◌+◌, ◌<◌, ◌≤◌, Bool, true, false, cond, refl, ap, sym, ◌∙◌, arith}
use Rattle.std.specs.Prelude.{nat_lt, Some, None}
use Rattle.std.proofs.lemmas.Bool.{le-ltb, lt-ltb, ltb-false, ltb-true}
use Rattle.rept_report.specs.declared.writer.Writer.{Writer}
use Rattle.rept_report.specs.declared.writer.Writer.TheVariants as writers
use Rattle.rept_findings.specs.LastWriters.{named_row}

abbrev pub second_step : ℕ → Writer
second_step p = cond (nat_lt p 2) writers.None (writers.MayWrite 1)

same_row : (row step : ℕ) → Some row ≡ Some step → row ≡ step
same_row row step e = cc

pub no_row : {X : Type 0} (step : ℕ) → None ≡ Some step → X
no_row step e = cc

-- where a step is named it is the second one, at a point after it
named : (p step : ℕ) → named_row (second_step p) ≡ Some step → (2 ≤ p) × (1 ≡ step)
named p step e = by_test (nat_lt p 2) refl
  where
    by_test : (b : Bool) → nat_lt p 2 ≡ b → (2 ≤ p) × (1 ≡ step)
    by_test true t = no_row step (sym (ap (λ b. named_row (cond b writers.None (writers.MayWrite 1))) t) ∙ e)
    by_test false t = (ltb-false p 2 t, same_row 1 step (sym (ap (λ b. named_row (cond b writers.None (writers.MayWrite 1))) t) ∙ e))

is_named : (p step : ℕ) → 2 ≤ p → 1 ≡ step → named_row (second_step p) ≡ Some step
is_named p step h e = ap (λ b. named_row (cond b writers.None (writers.MayWrite 1))) (le-ltb p 2 h) ∙ ap Some e

pub is_before : (p step : ℕ) → named_row (second_step (0 + p)) ≡ Some step → step < p
is_before p step e = let is = named (0 + p) step e in let after = is.0 in let second = is.1 in omega (arith, after, second)

pub is_since : (q p step : ℕ) → named_row (second_step (0 + p)) ≡ Some step → step < q → named_row (second_step (0 + q)) ≡ Some step
is_since q p step e h = let is = named (0 + p) step e in let second = is.1 in is_named (0 + q) step (omega (arith, second, h)) second

pub is_between : (o q step : ℕ) → named_row (second_step (0 + o)) ≡ Some step → o ≤ q → named_row (second_step (0 + q)) ≡ Some step
is_between o q step e h = let is = named (0 + o) step e in let after = is.0 in is_named (0 + q) step (omega (arith, after, h)) is.1

pub is_none : (q p : ℕ) → second_step (0 + p) ≡ writers.None → q ≤ p → second_step (0 + q) ≡ writers.None
is_none q p e h = by_test (nat_lt (0 + p) 2) refl
  where
    by_test : (b : Bool) → nat_lt (0 + p) 2 ≡ b → second_step (0 + q) ≡ writers.None
    by_test true t = let before = ltb-true (0 + p) 2 t in ap (λ b. cond b writers.None (writers.MayWrite 1)) (lt-ltb (0 + q) 2 (omega (arith, before, h)))
    by_test false t = no_row 1 (sym (ap named_row e) ∙ ap (λ b. named_row (cond b writers.None (writers.MayWrite 1))) t)
