-- The rows of one kind, calls or the others, by their indices, and the numbers between which they
-- may act. This project's own.
use Rattle.std.specs.Prelude.{◌≡◌, ℕ, ◌<◌, ◌≤◌, List, Bool, true, Some, get_or, length, min, slice_get}
use Rattle.std.specs.List.{All, Contains}
use Rattle.std.specs.List.Sorted.{IsNonDecreasing}
use Rattle.std.specs.Vec.{vec_capacity}
use Rattle.rept_alias.specs.Accesses.{call_hits}
use Rattle.rept_writing.specs.declared.columns.Columns.{Columns}
use Rattle.rept_writing.specs.declared.list.Writing.{Writing}
use Rattle.rept_writing.specs.Hits.{Link}

-- the numbers before a place are below k, and the others aren't
pub record IsSplitByActing (numbers : List ℕ) (k end : ℕ) : Type 0 where
  pub bound : end ≤ length numbers
  pub below : (m : ℕ) → m < end → get_or numbers m 0 < k
  pub above : (m : ℕ) → end ≤ m → m < length numbers → k ≤ get_or numbers m 0

-- for how many rows there is room
abbrev pub room_of : Columns → ℕ
room_of columns = min (vec_capacity columns.places) (min (vec_capacity columns.firsts) (vec_capacity columns.lasts))

-- The rows of the kind stand in their order. No one from a place on may act to a number below that
-- of `firsts`, and no one up to a place may act at that of `lasts` or after it.
pub record AreColumns (list : List Writing) (columns : Columns) : Type 0 where
  pub rising : IsNonDecreasing columns.places.items
  pub apart : (p q : ℕ) → p < q → q < length columns.places.items → get_or columns.places.items p 0 < get_or columns.places.items q 0
  pub inside : All (λ j. j < length list) columns.places.items
  pub complete : (j : ℕ) (w : Writing) → slice_get list j ≡ Some w → w.is_call ≡ columns.is_call → Contains columns.places.items j
  pub as_many_firsts : length columns.firsts.items ≡ length columns.places.items
  pub as_many_lasts : length columns.lasts.items ≡ length columns.places.items
  pub firsts_rise : IsNonDecreasing columns.firsts.items
  pub lasts_rise : IsNonDecreasing columns.lasts.items
  pub no_sooner : (p q : ℕ) (w : Writing) → p ≤ q → q < length columns.places.items → slice_get list (get_or columns.places.items q 0) ≡ Some w → get_or columns.firsts.items p 0 ≤ w.from
  pub no_later : (p q : ℕ) (w : Writing) → p ≤ q → q < length columns.places.items → slice_get list (get_or columns.places.items p 0) ≡ Some w → w.to ≤ get_or columns.lasts.items q 0

-- the same of the rows before an index, with the `from` of each row itself as `firsts`
pub record AreTaken (list : List Writing) (k : ℕ) (columns : Columns) : Type 0 where
  pub rising : IsNonDecreasing columns.places.items
  pub apart : (p q : ℕ) → p < q → q < length columns.places.items → get_or columns.places.items p 0 < get_or columns.places.items q 0
  pub inside : All (λ j. j < k) columns.places.items
  pub few : length columns.places.items ≤ k
  pub complete : (j : ℕ) (w : Writing) → j < k → slice_get list j ≡ Some w → w.is_call ≡ columns.is_call → Contains columns.places.items j
  pub as_many_firsts : length columns.firsts.items ≡ length columns.places.items
  pub as_many_lasts : length columns.lasts.items ≡ length columns.places.items
  pub lasts_rise : IsNonDecreasing columns.lasts.items
  pub first : (q : ℕ) (w : Writing) → q < length columns.places.items → slice_get list (get_or columns.places.items q 0) ≡ Some w → get_or columns.firsts.items q 0 ≤ w.from
  pub no_later : (p q : ℕ) (w : Writing) → p ≤ q → q < length columns.places.items → slice_get list (get_or columns.places.items p 0) ≡ Some w → w.to ≤ get_or columns.lasts.items q 0

-- each new number is no greater than the old ones from its place on, and they rise
pub record AreLeastOnward (old new : List ℕ) : Type 0 where
  pub as_many : length new ≡ length old
  pub rising : IsNonDecreasing new
  pub least : (p q : ℕ) → p ≤ q → q < length old → get_or new p 0 ≤ get_or old q 0

-- each row of the kind that may act between two numbers stands from the one index on and before the
-- other one
abbrev pub IsAround : List Writing → Bool → Link → (ℕ → ℕ → Type 0)
IsAround list is_call link low high = (j : ℕ) (w : Writing) → slice_get list j ≡ Some w → w.is_call ≡ is_call → link.from < w.to → w.from ≤ link.to → (low ≤ j) × (j < high)

-- no one of these rows of the kind may act at a number or after it
abbrev pub IsSince : List Writing → Bool → (ℕ → Writing → Type 0) → ℕ → Type 0
IsSince list is_call P number = (j : ℕ) (w : Writing) → slice_get list j ≡ Some w → w.is_call ≡ is_call → P j w → w.to ≤ number

-- no one of these rows of the kind may act to a lower number
abbrev pub IsUntil : List Writing → Bool → (ℕ → Writing → Type 0) → ℕ → Type 0
IsUntil list is_call P number = (j : ℕ) (w : Writing) → slice_get list j ≡ Some w → w.is_call ≡ is_call → P j w → number ≤ w.from

-- two rows of one kind may act between the same numbers
pub record MayActAs (old new : Writing) : Type 0 where
  pub from : new.from ≡ old.from
  pub to : new.to ≡ old.to
  pub kind : new.is_call ≡ old.is_call

-- no one of the rows before an index that may write the address may act at a number or after it
abbrev pub MayActBefore : List Writing → ℕ → ℕ → ℕ → Type 0
MayActBefore list a k number = (j : ℕ) (w : Writing) → j < k → slice_get list j ≡ Some w → call_hits w.access a ≡ true → w.to ≤ number

-- no one of them may act to a lower number
abbrev pub MayActFrom : List Writing → ℕ → ℕ → ℕ → Type 0
MayActFrom list a k number = (j : ℕ) (w : Writing) → j < k → slice_get list j ≡ Some w → call_hits w.access a ≡ true → number ≤ w.from
