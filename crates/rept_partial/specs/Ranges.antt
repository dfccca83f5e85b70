-- The words from one bound to another, both included, as sets of values.
use Rattle.std.specs.Prelude.{◌≡◌, ℕ, ◌<◌, ◌≤◌, ◌%◌, ◌^◌, Bool, true, ◌&&◌, nat_le, ◌==◌, min, max, if◌then◌else◌, Option, Some, None}
use Rattle.std.proofs.Common.{arith}
use Rattle.rept_partial.specs.declared.range.Range.{Range}
use Rattle.rept_partial.specs.Sets.{Sets, AreLawful, IsWithin}

-- a number as a word: a law speaks of every number, also of those that no u32 has
abbrev pub word : ℕ → ℕ
word v = v % 2 ^ 32

-- the words from a lowest to a highest one
abbrev pub bounded : (lo hi : ℕ) → lo ≤ hi → hi < 2 ^ 32 → Range
bounded lo hi o s = record { lo = lo; hi = hi; ordered = o; small = s }

pub at_most : (lo hi : ℕ) → min (word lo) (word hi) ≤ word hi
at_most lo hi = grind arith

pub is_word : (hi : ℕ) → word hi < 2 ^ 32
is_word hi = omega arith

-- the words from one number to another; both are read as words, and the lower bound is at most the
-- higher
abbrev pub from_to : ℕ → ℕ → Range
from_to lo hi = bounded (min (word lo) (word hi)) (word hi) (at_most lo hi) (is_word hi)

abbrev pub range_has : Range → ℕ → Bool
range_has a v = nat_le a.lo v && nat_le v a.hi

abbrev pub range_meet : Range → Range → Option Range
range_meet a b = if nat_le (max a.lo b.lo) (min a.hi b.hi) then Some (from_to (max a.lo b.lo) (min a.hi b.hi)) else None

abbrev pub range_exact : Range → Option ℕ
range_exact a = if a.lo == a.hi then Some a.lo else None

abbrev pub range_sets : Sets Range
range_sets = record { has = range_has; unknown = from_to 0 4294967295; exact = λ v. from_to v v; meet = range_meet; as_exact = range_exact; lo = λ a. a.lo; hi = λ a. a.hi }

both_sides : (a : Range) (v : ℕ) → range_has a v ≡ true → (a.lo ≤ v) × (v ≤ a.hi)
both_sides a v h = grind (arith, h)

inside : (a : Range) (v : ℕ) → a.lo ≤ v → v ≤ a.hi → range_has a v ≡ true
inside a v l h = grind (arith, l, h)

pub range_lawful : AreLawful range_sets
range_lawful = record { some = some_value; words = words; unknown = in_all; exact = exact_has; exact_only = exact_only; meet_some = meet_some; meet_within = meet_within; meet_none = meet_none; as_exact = as_exact; is_exact = is_exact; bounds = both_sides; ordered = λ a. a.ordered; small = λ a. a.small; bounds_within = bounds_within }
  where
    some_value : (a : Range) → (v : ℕ) × (range_has a v ≡ true)
    some_value a = (a.lo, inside a a.lo (omega arith) a.ordered)

    words : (a : Range) (v : ℕ) → range_has a v ≡ true → v < 2 ^ 32
    words a v h = let b = both_sides a v h in let s = a.small in omega arith

    in_all : (v : ℕ) → v < 2 ^ 32 → range_has (from_to 0 4294967295) v ≡ true
    in_all v small = grind (arith, small)

    exact_has : (v : ℕ) → v < 2 ^ 32 → range_has (from_to v v) v ≡ true
    exact_has v small = grind (arith, small)

    exact_only : (v u : ℕ) → v < 2 ^ 32 → range_has (from_to v v) u ≡ true → u ≡ v
    exact_only v u small h = grind (arith, small, h)

    met : (a b c : Range) → range_meet a b ≡ Some c → (c.lo ≡ max a.lo b.lo) × (c.hi ≡ min a.hi b.hi) × (max a.lo b.lo ≤ min a.hi b.hi)
    met a b c e = let s = a.small in let t = b.small in grind (arith, e, s, t)

    meet_some : (a b c : Range) (v : ℕ) → range_meet a b ≡ Some c → range_has a v ≡ true → range_has b v ≡ true → range_has c v ≡ true
    meet_some a b c v e ha hb = let m = met a b c e in let p = both_sides a v ha in let q = both_sides b v hb in inside c v (grind (arith, m, p, q)) (grind (arith, m, p, q))

    meet_within : (a b c : Range) (v : ℕ) → range_meet a b ≡ Some c → range_has c v ≡ true → (range_has a v ≡ true) × (range_has b v ≡ true)
    meet_within a b c v e hc = let m = met a b c e in let p = both_sides c v hc in (inside a v (grind (arith, m, p)) (grind (arith, m, p)), inside b v (grind (arith, m, p)) (grind (arith, m, p)))

    meet_none : (a b : Range) (v : ℕ) → range_meet a b ≡ None → range_has a v ≡ true → range_has b v ≡ true → ⊥
    meet_none a b v e ha hb = let p = both_sides a v ha in let q = both_sides b v hb in grind (arith, e, p, q)

    as_exact : (a : Range) (v u : ℕ) → range_exact a ≡ Some v → range_has a u ≡ true → u ≡ v
    as_exact a v u e h = let p = both_sides a u h in grind (arith, e, p)

    is_exact : (a : Range) (v : ℕ) → ((u : ℕ) → range_has a u ≡ true → u ≡ v) → range_exact a ≡ Some v
    is_exact a v h =
        let l : a.lo ≡ v = h a.lo (inside a a.lo (omega arith) a.ordered) in
        let g : a.hi ≡ v = h a.hi (inside a a.hi a.ordered (omega arith)) in
        grind (arith, l, g)

    bounds_within : (a b : Range) → IsWithin range_sets a b → (b.lo ≤ a.lo) × (a.hi ≤ b.hi)
    bounds_within a b h = ((both_sides b a.lo (h a.lo (inside a a.lo (omega arith) a.ordered))).0, (both_sides b a.hi (h a.hi (inside a a.hi a.ordered (omega arith)))).1)
