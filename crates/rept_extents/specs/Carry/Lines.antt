-- The lines of the moments of a course: numbers one after the other, of which each but the last has
-- the one after it next to it, and no other. This project's own.
use Rattle.std.specs.Prelude.{◌≡◌, ℕ, ◌+◌, ◌<◌, ◌≤◌, List, length, Some, slice_get}
use Rattle.rept_report.specs.declared.paths.NumberChain.{NumberChain}
use Rattle.rept_report.specs.Moments.{Moments}
use Rattle.rept_report.specs.Timeline.{IsJoined, IsLine}
use Rattle.rept_extents.specs.declared.carry.lines.Lines.{Lines}
use Rattle.rept_extents.specs.declared.carry.lines.Lines as lines

-- each number from the first on is joined to the one after it, but the last isn't
pub record IsLineFrom (M : Moments) (first last : ℕ) : Type 0 where
  pub up : first ≤ last
  pub inside : last ≤ M.end
  pub joined : (k : ℕ) → first ≤ k → k < last → IsJoined M k
  pub ends : IsJoined M last → ⊥

-- the list has the lines of the numbers below one
pub record AreLinesBelow (M : Moments) (n : ℕ) (list : List NumberChain) : Type 0 where
  pub count : length list ≡ n
  pub each : (k : ℕ) (x : NumberChain) → slice_get list k ≡ Some x → IsLine M k x

-- these are the lines of all numbers
abbrev pub whole : ℕ → NumberChain
whole end = record { first = 0; last = end }

abbrev pub AreLines : Moments → Lines → Type 0
AreLines M (lines.TheVariants.One end) = (m : ℕ) → m ≤ M.end → IsLine M m (whole end)
AreLines M (lines.TheVariants.Many list) = AreLinesBelow M (M.end + 1) list.items

-- they have one for the number
abbrev pub IsIn : Lines → ℕ → Type 0
IsIn (lines.TheVariants.One end) m = Unit {0}
IsIn (lines.TheVariants.Many list) m = m < length list.items
