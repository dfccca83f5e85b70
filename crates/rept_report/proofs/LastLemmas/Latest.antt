-- What a search for the last one of some rows has found so far.
use Rattle.std.proofs.Common.{◌≡◌, ◌≢◌, ℕ, ◌<◌}
use Rattle.rept_report.specs.Latest.{IsEarlierRow, IsLatest}
use Rattle.rept_report.specs.Moments.{Moments}

-- each of them below a number lies before this one, but for it
abbrev pub AreBefore : Moments → (ℕ → Type 0) → ℕ → ℕ → Type 0
AreBefore moments Is best n = (k : ℕ) → k < n → Is k → k ≢ best → IsEarlierRow moments k best

-- where one of them is the last one and stands below a number, it is this one
abbrev pub IsOnlyBelow : Moments → (ℕ → Type 0) → ℕ → ℕ → Type 0
IsOnlyBelow moments Is n best = (j : ℕ) → IsLatest moments Is j → j < n → best ≡ j
