-- The bounds of the addresses that rows of many may write, for each block of these rows and for all
-- of them, and of those that rows of one kind may write. This project's own.
use Rattle.std.specs.Prelude.{◌≡◌, ℕ, ◌<◌, ◌^◌, ◌/◌, ◌&&◌, nat_le, List, length, get_or, Bool, true, Option, Some, None, slice_get}
use Rattle.rept_alias.specs.Accesses.{call_hits}
use Rattle.rept_writing.specs.declared.bounds.StoreBounds.{StoreBounds}
use Rattle.rept_writing.specs.declared.list.Writing.{Writing}
use Rattle.rept_writing.specs.Hits.{hits_at}

-- whether an address lies between two, both included
abbrev pub lies_in : StoreBounds → ℕ → Bool
lies_in bounds a = nat_le bounds.least a && nat_le a bounds.most

-- what lies in the old bounds lies in the new ones, and so does each address that is one of the
-- others
pub record IsWidened (is : ℕ → Bool) (old new : StoreBounds) : Type 0 where
  pub kept : (a : ℕ) → a < 2 ^ 32 → lies_in old a ≡ true → lies_in new a ≡ true
  pub more : (a : ℕ) → a < 2 ^ 32 → is a ≡ true → lies_in new a ≡ true

abbrev pub lies_in_block : Option StoreBounds → ℕ → Bool
lies_in_block None a = true
lies_in_block (Some bounds) a = lies_in bounds a

-- whether a row of a block may write an address, by the block's bounds; where there are none it may
abbrev pub may_write : List StoreBounds → ℕ → ℕ → Bool
may_write blocks n a = lies_in_block (slice_get blocks n) a

-- Each address that a row may write lies in the bounds of the row's block, by the place of its
-- index among those of rows of many: the first 32 of these are one block, the next 32 another one,
-- and so on.
abbrev pub AreBounded : List Writing → List ℕ → List StoreBounds → Type 0
AreBounded list wide blocks = (m a : ℕ) → m < length wide → a < 2 ^ 32 → hits_at list (get_or wide m 0) a ≡ true → may_write blocks (m / 32) a ≡ true

-- each address that one of the rows at these places may write lies in the bounds
pub record AreInBounds (list : List Writing) (wide : List ℕ) (place : ℕ → Type 0) (bounds : StoreBounds) : Type 0 where
  pub within : (m a : ℕ) → place m → a < 2 ^ 32 → hits_at list (get_or wide m 0) a ≡ true → lies_in bounds a ≡ true

-- each address that a row of one kind, a call or another row, may write lies in the bounds
abbrev pub AreOfKindWithin : List Writing → Bool → StoreBounds → Type 0
AreOfKindWithin list is_call bounds = (j a : ℕ) (w : Writing) → a < 2 ^ 32 → slice_get list j ≡ Some w → w.is_call ≡ is_call → call_hits w.access a ≡ true → lies_in bounds a ≡ true

-- the bounds of one block were widened by some addresses
pub record IsBlockWidened (is : ℕ → Bool) (n : ℕ) (old new : List StoreBounds) : Type 0 where
  pub kept : (p a : ℕ) → a < 2 ^ 32 → may_write old p a ≡ true → may_write new p a ≡ true
  pub more : (a : ℕ) → a < 2 ^ 32 → is a ≡ true → may_write new n a ≡ true
