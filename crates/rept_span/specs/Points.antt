-- Some of the points of a path, by a mark for each point. This project's own.
use Rattle.std.specs.Prelude.{◌≡◌, ℕ, ◌<◌, ◌≤◌, Bool, true, List, length, Option, Some, None, slice_get}

-- a point is marked
abbrev pub HasPoint : List Bool → ℕ → Type 0
HasPoint marks p = slice_get marks p ≡ Some true

-- each marked point is at least the one and below the other
abbrev pub AreWithin : List Bool → ℕ → ℕ → Type 0
AreWithin marks first end = (p : ℕ) → HasPoint marks p → (first ≤ p) × (p < end)

-- all points are marked
abbrev pub HasAllPoints : List Bool → Type 0
HasAllPoints marks = (p : ℕ) → p < length marks → HasPoint marks p

-- no point from the one up to the other is marked
abbrev pub HasNoneIn : List Bool → ℕ → ℕ → Type 0
HasNoneIn marks from to = (p : ℕ) → from ≤ p → p < to → HasPoint marks p → ⊥

-- the first marked point from one on
pub record IsFirstPoint (marks : List Bool) (from p : ℕ) : Type 0 where
  pub later : from ≤ p
  pub has : HasPoint marks p
  pub inside : p < length marks
  pub first : HasNoneIn marks from p

-- the same, or that there is none
abbrev pub IsNextPoint : List Bool → ℕ → Option ℕ → Type 0
IsNextPoint marks from None = (p : ℕ) → from ≤ p → HasPoint marks p → ⊥
IsNextPoint marks from (Some p) = IsFirstPoint marks from p

-- so it is of the points below another one
abbrev pub IsNextPointBelow : List Bool → ℕ → ℕ → Option ℕ → Type 0
IsNextPointBelow marks from end None = HasNoneIn marks from end
IsNextPointBelow marks from end (Some p) = IsFirstPoint marks from p

-- each point that was marked still is
abbrev pub KeepsPoints : List Bool → List Bool → Type 0
KeepsPoints old new = (p : ℕ) → HasPoint old p → HasPoint new p
