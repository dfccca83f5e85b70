-- Sets of values of one 32-bit word, as an implementation gives them, and what must hold of them.
-- This project's own.
use Rattle.std.specs.Prelude.{◌≡◌, ℕ, ◌<◌, ◌≤◌, ◌^◌, Bool, true, Option, Some, None}

-- the operations on the sets of one kind
pub record Sets (W : Type 0) : Type 0 where
  -- whether the value is in the set
  pub has : W → ℕ → Bool
  -- all words
  pub unknown : W
  -- one word
  pub exact : ℕ → W
  -- the common values, if there are any
  pub meet : W → W → Option W
  -- the only value, if there is only one
  pub as_exact : W → Option ℕ
  -- bounds of the values
  pub lo : W → ℕ
  pub hi : W → ℕ

-- each value of the one set is in the other
abbrev pub IsWithin : {W : Type 0} → Sets W → W → W → Type 0
IsWithin o a b = (v : ℕ) → o.has a v ≡ true → o.has b v ≡ true

pub record AreLawful {W : Type 0} (o : Sets W) : Type 0 where
  -- each set has a value, and has only words
  pub some : (a : W) → (v : ℕ) × (o.has a v ≡ true)
  pub words : (a : W) (v : ℕ) → o.has a v ≡ true → v < 2 ^ 32
  pub unknown : (v : ℕ) → v < 2 ^ 32 → o.has o.unknown v ≡ true
  pub exact : (v : ℕ) → v < 2 ^ 32 → o.has (o.exact v) v ≡ true
  pub exact_only : (v u : ℕ) → v < 2 ^ 32 → o.has (o.exact v) u ≡ true → u ≡ v
  pub meet_some : (a b c : W) (v : ℕ) → o.meet a b ≡ Some c → o.has a v ≡ true → o.has b v ≡ true → o.has c v ≡ true
  pub meet_within : (a b c : W) (v : ℕ) → o.meet a b ≡ Some c → o.has c v ≡ true → (o.has a v ≡ true) × (o.has b v ≡ true)
  pub meet_none : (a b : W) (v : ℕ) → o.meet a b ≡ None → o.has a v ≡ true → o.has b v ≡ true → ⊥
  pub as_exact : (a : W) (v u : ℕ) → o.as_exact a ≡ Some v → o.has a u ≡ true → u ≡ v
  pub is_exact : (a : W) (v : ℕ) → ((u : ℕ) → o.has a u ≡ true → u ≡ v) → o.as_exact a ≡ Some v
  pub bounds : (a : W) (v : ℕ) → o.has a v ≡ true → (o.lo a ≤ v) × (v ≤ o.hi a)
  pub ordered : (a : W) → o.lo a ≤ o.hi a
  pub small : (a : W) → o.hi a < 2 ^ 32
  -- a smaller set has no wider bounds
  pub bounds_within : (a b : W) → IsWithin o a b → (o.lo b ≤ o.lo a) × (o.hi a ≤ o.hi b)
