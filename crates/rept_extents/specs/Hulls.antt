-- Bounds of numbers, and of blocks of them. This project's own.
use Rattle.std.specs.Prelude.{ℕ, ◌*◌, ◌+◌, ◌^◌, ◌≤◌, ◌<◌, List, [], Option, Some, None, slice_index_or}
use Rattle.rept_extents.specs.declared.hulls.Bounds.{Bounds}

-- there are bounds, and they lie within others
abbrev pub LiesIn : Option Bounds → Bounds → Type 0
LiesIn None outer = ⊥
LiesIn (Some h) outer = (outer.least ≤ h.least) × (h.most ≤ outer.most)

-- numbers from one on to before another one, and bounds
pub record HullStretch : Type 0 where
  pub from : ℕ
  pub to : ℕ
  pub outer : Bounds

-- each of the numbers has bounds that lie within these
abbrev pub LieIn : List (Option Bounds) → HullStretch → Type 0
LieIn list s = (k : ℕ) → s.from ≤ k → k < s.to → LiesIn (slice_index_or list k None) s.outer

-- of blocks of so many numbers each: what the bounds of a block lie within, those of each of its
-- numbers lie within
abbrev pub AreBlocks : ℕ → List (Option Bounds) → List (Option Bounds) → Type 0
AreBlocks size blocks list = (b : ℕ) (outer : Bounds) → LiesIn (slice_index_or blocks b None) outer → LieIn list (record { from = b * size; to = b * size + size; outer = outer })

-- the blocks of each level: single numbers at level 0, and four times as many numbers at each
-- further one
abbrev pub AreLevels : List (List (Option Bounds)) → List (Option Bounds) → Type 0
AreLevels levels list = (n : ℕ) → AreBlocks (4 ^ n) (slice_index_or levels n []) list
