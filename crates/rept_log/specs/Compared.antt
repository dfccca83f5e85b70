-- Of which registers the same is known at a point and at the one after it. This project's own.
use Rattle.std.specs.Prelude.{◌≡◌, ℕ, ◌+◌, ◌*◌, ◌<◌, ◌≤◌, ◌↔◌, Bool, true, List, length, Option, Some, None, IsTrue, slice_index_or}
use Rattle.rept_reason.specs.declared.fact.Fact.{Fact}
use Rattle.rept_reason.specs.declared.fact.Cell.TheVariants.{Register}
use Rattle.rept_reason.specs.Facts.{told}
use Rattle.rept_log.specs.Slots.{slot}

-- the facts tell the same of a register at a point and at the one after it
abbrev pub IsSameAfter : List Fact → ℕ → ℕ → Type 0
IsSameAfter log p r = told log p (Register r) ≡ told log (p + 1) (Register r)

-- A table has an entry for each register other than x0 at each point before the last one: whether
-- the facts tell the same of it at the point and at the one after it.
pub record AreCompared (last : ℕ) (log : List Fact) (same : List Bool) : Type 0 where
  pub size : length same ≡ last * 31
  pub entries : (p r : ℕ) → p < last → 0 < r → r < 32 → IsTrue (slice_index_or same (slot p r) true) ↔ IsSameAfter log p r

abbrev pub IsAllSame : ℕ → List Bool → Type 0
IsAllSame count same = (length same ≡ count) × ((k : ℕ) → slice_index_or same k true ≡ true)

-- one entry was set, if there is one at the place
pub record IsMarked (old new : List Bool) (at : ℕ) (value : Bool) : Type 0 where
  pub size : length new ≡ length old
  pub there : at < length old → slice_index_or new at true ≡ value
  pub others : (k : ℕ) → (k ≡ at → ⊥) → slice_index_or new k true ≡ slice_index_or old k true

-- the first register from one on of which the facts don't tell the same
pub record IsFirstDiffering (log : List Fact) (p least r : ℕ) : Type 0 where
  pub from : least ≤ r
  pub in_file : r < 32
  pub differs : IsSameAfter log p r → ⊥
  pub same_below : (s : ℕ) → least ≤ s → s < r → IsSameAfter log p s

-- the same, if there is one
abbrev pub IsNextDiffering : List Fact → ℕ → ℕ → Option ℕ → Type 0
IsNextDiffering log p least None = (s : ℕ) → least ≤ s → s < 32 → IsSameAfter log p s
IsNextDiffering log p least (Some r) = IsFirstDiffering log p least r
