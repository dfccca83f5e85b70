-- A row of spans in blocks of at most 2048.
use Rattle.std.specs.Prelude.{◌≡◌, ℕ, ◌<◌, ◌≤◌, List, [], ◌∷◌, ◌++◌, length, slice_index_or, ⊤}
use Rattle.rept_versions.specs.declared.span.Span.{Span}

-- the spans of all blocks
abbrev pub flat : List (List Span) → List Span
flat [] = []
flat (b ∷ bs) = b ++ flat bs

abbrev pub block : List (List Span) → ℕ → List Span
block bs k = slice_index_or bs k []

-- a block that isn't full is followed by empty ones alone
abbrev pub IsPacked : List (List Span) → Type 0
IsPacked [] = ⊤
IsPacked (b ∷ bs) = (length b ≤ 2048) × (length b < 2048 → flat bs ≡ []) × IsPacked bs

-- so many blocks with no span
pub record AreEmptyBlocks (bs : List (List Span)) (count : ℕ) : Type 0 where
  pub len : length bs ≡ count
  pub packed : IsPacked bs
  pub none : flat bs ≡ []
