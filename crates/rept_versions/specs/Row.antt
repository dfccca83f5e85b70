-- Numbers in the order in which they came, with room for so many.
use Rattle.std.specs.Prelude.{◌≡◌, ℕ, ◌≤◌, List, [], ◌∷◌, ◌++◌, length, Result, Ok, Err, Contains, ⊤}
use Rattle.std.specs.declared.alloc.AllocError.{AllocError}

pub record VersionRow : Type 0 where
  pub items : List ℕ
  pub room : ℕ

-- a is among the numbers, as before, or now as the last
pub record Puts (old new : VersionRow) (a : ℕ) : Type 0 where
  pub room : new.room ≡ old.room
  pub there : Contains old.items a → new.items ≡ old.items
  pub last : (Contains old.items a → ⊥) → new.items ≡ old.items ++ a ∷ []

abbrev pub AddsTo : VersionRow → VersionRow → ℕ → Result ⊤ AllocError → Type 0
AddsTo old new a (Ok u) = Puts old new a
AddsTo old new a (Err e) = (new ≡ old) × (Contains old.items a → ⊥) × (old.room ≤ length old.items)
