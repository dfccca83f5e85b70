-- How much an analysis doesn't know yet: a number that falls whenever it learns. This project's
-- own.
use Rattle.std.specs.Prelude.{ℕ, ◌+◌, ◌^◌, not, is_none}
use Rattle.rept_reason.specs.declared.fact.Cell.TheVariants.{Register, Byte}
use Rattle.rept_reason.specs.Facts.{Knowledge}
use Rattle.rept_facts.specs.State.{AnalysisState, all_known}
use Rattle.rept_facts.specs.Kept.{is_among}
use Rattle.rept_facts.specs.Sums.{count_true, sum_to}
use Rattle.rept_facts.specs.Work.{left}

-- how many registers aren't known at a point, and how many bytes at a moment
abbrev pub registers_unknown : Knowledge → ℕ → ℕ
registers_unknown K p = count_true (λ r. is_none (K p (Register r))) 32

abbrev pub bytes_unknown : Knowledge → ℕ → ℕ
bytes_unknown K m = count_true (λ a. is_none (K m (Byte a))) (2 ^ 32)

-- how many cells aren't known, how many addresses aren't tracked, and how often rules can be
-- applied still
abbrev pub measure : {W : Type 0} → AnalysisState W → ℕ
measure s = sum_to (registers_unknown (all_known s)) (s.path.given.legs.count + 1) + sum_to (bytes_unknown (all_known s)) (s.path.given.moments.end + 1) + count_true (λ a. not (is_among s.known.store.tracked a)) (2 ^ 32) + left s.work.inferred
