-- Numbers that rise: where they pass one, and what is added. This project's own.
use Rattle.std.specs.Prelude.{◌≡◌, ◌↔◌, ◌⊎◌, ℕ, ◌<◌, ◌≤◌, List, length, slice_index_or}
use Rattle.std.specs.List.{Contains}

-- the numbers before a place are below k, and the others aren't
pub record IsSplit (numbers : List ℕ) (k end : ℕ) : Type 0 where
  pub bound : end ≤ length numbers
  pub below : (m : ℕ) → m < end → slice_index_or numbers m 0 < k
  pub above : (m : ℕ) → end ≤ m → m < length numbers → k ≤ slice_index_or numbers m 0

-- a number was added
abbrev pub AddsOne : ℕ → List ℕ → List ℕ → Type 0
AddsOne n old new = (v : ℕ) → Contains new v ↔ (Contains old v ⊎ (v ≡ n))
