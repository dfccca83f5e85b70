-- How many of the first numbers pass a test, and what is counted of an analysis.
use Rattle.std.proofs.Common.{◌≡◌, ℕ, zero, suc, ◌+◌, ◌<◌, ◌≤◌, Bool, true, false, None, refl, subst, arith}
use mathlib.Core.Path.{fun_ext}
use Rattle.rept_reason.specs.declared.fact.Cell.{Cell}
use Rattle.rept_reason.specs.declared.fact.Cell.TheVariants.{Register, Byte}
use Rattle.rept_reason.specs.Facts.{Knowledge}
use Rattle.rept_report.specs.Setting.{Setting}
use Rattle.rept_report.specs.Knowing.{KnowSameRegisters}
use Rattle.rept_report.specs.declared.counts.Counts.{Counts}
use Rattle.rept_facts.specs.Sums.{one_if, count_true, sum_to}
use Rattle.rept_facts.specs.Counts.{IsCounted}

pub count_none : (P : ℕ → Bool) → count_true P 0 ≡ 0
unfolding count_true
count_none P = refl

-- one number more
pub count_next : (P : ℕ → Bool) (n : ℕ) → count_true P (n + 1) ≡ one_if (P n) + count_true P n
unfolding count_true
count_next P n = let e : n + 1 ≡ suc n = omega arith in rw e refl

pub count_hit : (P : ℕ → Bool) (n : ℕ) → P n ≡ true → count_true P (n + 1) ≡ count_true P n + 1
count_hit P n e = let next = count_next P n in let one : one_if (P n) ≡ 1 = rw e refl in omega (arith, next, one)

pub count_miss : (P : ℕ → Bool) (n : ℕ) → P n ≡ false → count_true P (n + 1) ≡ count_true P n
count_miss P n e = let next = count_next P n in let none : one_if (P n) ≡ 0 = rw e refl in omega (arith, next, none)

-- where all numbers pass, all are counted
pub count_full : (P : ℕ → Bool) (n : ℕ) → ((i : ℕ) → i < n → P i ≡ true) → count_true P n ≡ n
count_full P zero h = count_none P
count_full P (suc n) h =
    let e : suc n ≡ n + 1 = omega arith in
    let here = count_hit P n (h n (omega arith)) in
    let rest = count_full P n (λ i below. h i (omega (arith, below))) in
    rw e (omega (arith, here, rest))

pub sum_none : (f : ℕ → ℕ) → sum_to f 0 ≡ 0
unfolding sum_to
sum_none f = refl

pub sum_next : (f : ℕ → ℕ) (n : ℕ) → sum_to f (n + 1) ≡ sum_to f n + f n
unfolding sum_to
sum_next f n = let e : n + 1 ≡ suc n = omega arith in rw e (omega arith)

-- one number more that passes, or doesn't, and the sum by which it is counted
pub counted_yes : (P : ℕ → Bool) (n sum new : ℕ) → P n ≡ true → sum ≡ count_true P n → sum ≤ n → new ≡ sum + 1 → (new ≡ count_true P (n + 1)) × (new ≤ n + 1)
counted_yes P n sum new passes is few more = let hit = count_hit P n passes in (omega (arith, hit, is, more), omega (arith, few, more))

pub counted_no : (P : ℕ → Bool) (n sum new : ℕ) → P n ≡ false → sum ≡ count_true P n → sum ≤ n → new ≡ sum → (new ≡ count_true P (n + 1)) × (new ≤ n + 1)
counted_no P n sum new fails is few same = let miss = count_miss P n fails in (omega (arith, miss, is, same), omega (arith, few, same))

abbrev of_registers : Knowledge → Knowledge
of_registers K p (Register r) = K p (Register r)
of_registers K p (Byte a) = None

-- what is counted looks at registers alone
pub counted_same : {W : Type 0} (S : Setting W) (K L : Knowledge) → KnowSameRegisters K L → (counts : Counts) → IsCounted S K counts → IsCounted S L counts
counted_same S K L same counts h =
    let h' : IsCounted S (of_registers K) counts = record { steps = h.steps; calls = h.calls; registers = h.registers; exact = h.exact; inexact = h.inexact } in
    let g : IsCounted S (of_registers L) counts = subst (λ (J : Knowledge). IsCounted S J counts) (fun_ext (λ p. fun_ext (λ c. at p c))) h' in
    record { steps = g.steps; calls = g.calls; registers = g.registers; exact = g.exact; inexact = g.inexact }
  where
    at : (p : ℕ) (c : Cell) → of_registers K p c ≡ of_registers L p c
    at p (Register r) = same p r
    at p (Byte a) = refl
