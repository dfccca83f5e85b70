-- The numbers that a search has reached, in their order. This project's own.
use Rattle.std.specs.Prelude.{◌≡◌, ℕ, ◌+◌, ◌<◌, ◌≤◌, ◌⊎◌, Bool, true, false, List, [], ◌∷◌, ◌++◌, length, Option, Some, None, slice_get, slice_index_or, sum_by}
use Rattle.rept_report.specs.declared.nearest.found.NearestValue.{NearestValue}
use Rattle.rept_report.specs.Nearest.Nets.{Links, IsWithinLinks, IsEmptyBelow}

-- numbers below a bound
pub record Reached : Type 0 where
  pub bound : ℕ
  pub list : List ℕ

abbrev pub IsAmong : List ℕ → ℕ → Type 0
IsAmong list m = (k : ℕ) × (slice_get list k ≡ Some m)

abbrev pub one_if_clear : Bool → ℕ
one_if_clear true = 0
one_if_clear false = 1

-- so many marks, none of which is set
abbrev pub AreClear : ℕ → List Bool → Type 0
AreClear count marks = (length marks ≡ count) × (sum_by one_if_clear marks ≡ count) × ((k : ℕ) → slice_index_or marks k false ≡ false)

-- the numbers whose marks are set are those of the list, and what can still be added fits into its
-- capacity
pub record AreMarked (marks : List Bool) (list : List ℕ) (capacity : ℕ) : Type 0 where
  pub marked : (m : ℕ) → slice_index_or marks m false ≡ true → IsAmong list m
  pub among : (k m : ℕ) → slice_get list k ≡ Some m → slice_index_or marks m false ≡ true
  pub room : length list + sum_by one_if_clear marks ≡ length marks
  pub fits : length marks ≤ capacity

-- one number more, or it was among them
abbrev pub AddsNumber : Reached → Reached → ℕ → Type 0
AddsNumber old new m = (IsAmong old.list m × (new ≡ old)) ⊎ (new ≡ record { bound = old.bound; list = old.list ++ m ∷ [] })

-- they are numbers of the net
abbrev pub AreWithin : Links → List ℕ → Type 0
AreWithin L list = (k m : ℕ) → slice_get list k ≡ Some m → m ≤ L.last

-- none from an index on has a value, or one has
abbrev pub HasValue : Links → List ℕ → ℕ → ℕ → Option NearestValue → Type 0
HasValue L list start links None = (k m : ℕ) → start ≤ k → slice_get list k ≡ Some m → L.value m ≡ None
HasValue L list start links (Some found) = IsAmong list found.number × (L.value found.number ≡ Some found.value) × (found.links ≡ links)

-- what was reached still is, at the same places
pub record ReachesMore (old new : Reached) : Type 0 where
  pub bound : new.bound ≡ old.bound
  pub longer : length old.list ≤ length new.list
  pub kept : (k m : ℕ) → slice_get old.list k ≡ Some m → slice_get new.list k ≡ Some m

-- all that the number is linked to was reached, and else nothing new
pub record GrowsFrom (L : Links) (old new : Reached) (m : ℕ) : Type 0 where
  pub grows : ReachesMore old new
  pub all : (w : ℕ) → L.linked m w ≡ true → IsAmong new.list w
  pub only : (w : ℕ) → IsAmong new.list w → IsAmong old.list w ⊎ (L.linked m w ≡ true)

-- a number that was reached is linked to this one
pub record IsBeside (L : Links) (list : List ℕ) (w : ℕ) : Type 0 where
  pub index : ℕ
  pub number : ℕ
  pub there : slice_get list index ≡ Some number
  pub link : L.linked number w ≡ true

-- the same of all numbers from an index on
pub record GrowsBeside (L : Links) (old new : Reached) (start : ℕ) : Type 0 where
  pub grows : ReachesMore old new
  pub all : (k m w : ℕ) → start ≤ k → slice_get old.list k ≡ Some m → L.linked m w ≡ true → IsAmong new.list w
  pub only : (w : ℕ) → IsAmong new.list w → IsAmong old.list w ⊎ IsBeside L old.list w

-- They are all that so many links lead to, and none that fewer links lead to has a value. Those
-- below an index have no value, and all that they are linked to was reached.
pub record IsBall (L : Links) (from : ℕ) (list : List ℕ) (start links : ℕ) : Type 0 where
  pub within : (k m : ℕ) → slice_get list k ≡ Some m → IsWithinLinks L from links m
  pub whole : (m : ℕ) → IsWithinLinks L from links m → IsAmong list m
  pub closed : (k m w : ℕ) → k < start → slice_get list k ≡ Some m → L.linked m w ≡ true → IsAmong list w
  pub empty : (k m : ℕ) → k < start → slice_get list k ≡ Some m → L.value m ≡ None
  pub inside : AreWithin L list
  pub few : links ≤ start
  pub earlier : IsEmptyBelow L from links
