-- The bytes of one address that facts tell, by their moments. This project's own.
use Rattle.std.specs.Prelude.{◌≡◌, ℕ, ◌+◌, ◌≤◌, List, length, Option, None, slice_index_or}
use Rattle.rept_reason.specs.declared.fact.Fact.{Fact}
use Rattle.rept_reason.specs.declared.fact.Cell.TheVariants.{Byte}
use Rattle.rept_reason.specs.Facts.{told}

-- so many, and none is known
abbrev pub IsNothing : ℕ → List (Option ℕ) → Type 0
IsNothing count bytes = (length bytes ≡ count) × ((m : ℕ) → slice_index_or bytes m None ≡ None)

-- the fact is on the byte, at one of the moments up to a last one
abbrev pub IsOn : Fact → ℕ → ℕ → Type 0
IsOn f a end = (f.cell ≡ Byte a) × (f.point ≤ end)

-- those that the facts tell at the moments up to a last one
pub record AreTold (fs : List Fact) (end a : ℕ) (bytes : List (Option ℕ)) : Type 0 where
  pub size : length bytes ≡ end + 1
  pub told_at : (m : ℕ) → m ≤ end → slice_index_or bytes m None ≡ told fs m (Byte a)
