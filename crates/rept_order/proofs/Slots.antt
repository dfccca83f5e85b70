-- The places of slices in a thread's list, and what their times say of one another.
use Rattle.std.proofs.Common.{◌≡◌, ℕ, zero, suc, ◌+◌, ◌<◌, ◌≤◌, nat_lt, cond, List, [], ◌∷◌, Some, None, slice_get, inl, inr, refl, ap, subst, arith}
use Rattle.std.proofs.lemmas.Bool.{cases_lt, lt-ltb, le-ltb}
use Rattle.rept_steps.specs.declared.slice.Slice.{Slice}
use Rattle.rept_steps.specs.Course.{slice_of, first_slice, slice_after, TakeRows, BeginsFrom, KeepTime}

-- the place of the slice that a row is in
abbrev pub slot : List Slice → ℕ → ℕ
slot [] i = 0
slot (s ∷ slices) i = cond (nat_lt i (s.first + s.count)) 0 (suc (slot slices i))

slot_of : (slices : List Slice) (i : ℕ) → slice_of slices i ≡ slice_get slices (slot slices i)
slot_of [] i = refl
slot_of (s ∷ slices) i =
    elim (cases_lt i (s.first + s.count)) [
      | inl here ↦ rw (lt-ltb i (s.first + s.count) here) refl
      | inr past ↦ rw (le-ltb i (s.first + s.count) past) (slot_of slices i)
    ]

first_is : (slices : List Slice) → first_slice slices ≡ slice_get slices 0
first_is [] = refl
first_is (s ∷ slices) = refl

slot_after : (slices : List Slice) (i : ℕ) → slice_after slices i ≡ slice_get slices (suc (slot slices i))
slot_after [] i = refl
slot_after (s ∷ slices) i =
    elim (cases_lt i (s.first + s.count)) [
      | inl here ↦ rw (lt-ltb i (s.first + s.count) here) (first_is slices)
      | inr past ↦ rw (le-ltb i (s.first + s.count) past) (slot_after slices i)
    ]

pub slot_mono : (slices : List Slice) (i j : ℕ) → i ≤ j → slot slices i ≤ slot slices j
slot_mono [] i j least = omega arith
slot_mono (s ∷ slices) i j least =
    elim (cases_lt i (s.first + s.count)) [
      | inl here ↦ rw (lt-ltb i (s.first + s.count) here) (omega arith)
      | inr past ↦
          let beyond : s.first + s.count ≤ j = omega arith in
          let rest = slot_mono slices i j least in
          rw (le-ltb i (s.first + s.count) past, le-ltb j (s.first + s.count) beyond) (omega arith)
    ]

some_same : {a b : Slice} → Some a ≡ Some b → a ≡ b
some_same e = cc

none_some : {a : Slice} → None ≡ Some a → ⊥
none_some e = cc

-- the slice that a row is in reaches past it
pub slice_reaches : (slices : List Slice) (i : ℕ) (s : Slice) → slice_of slices i ≡ Some s → i < s.first + s.count
slice_reaches [] i s is = absurd (none_some is)
slice_reaches (v ∷ slices) i s is =
    elim (cases_lt i (v.first + v.count)) [
      | inl here ↦ let same : v ≡ s = some_same (rw (lt-ltb i (v.first + v.count) here) at is) in subst (λ (u : Slice). i < u.first + u.count) same here
      | inr past ↦ slice_reaches slices i s (rw (le-ltb i (v.first + v.count) past) at is)
    ]

-- a row past the end of another one's slice is in a later one
pub slot_strict : (slices : List Slice) (i j : ℕ) (s : Slice) → slice_of slices i ≡ Some s → s.first + s.count ≤ j → suc (slot slices i) ≤ slot slices j
slot_strict [] i j s is most = absurd (none_some is)
slot_strict (v ∷ slices) i j s is most =
    elim (cases_lt i (v.first + v.count)) [
      | inl here ↦
          let same : v ≡ s = some_same (rw (lt-ltb i (v.first + v.count) here) at is) in
          let count : v.first + v.count ≡ s.first + s.count = ap (λ (u : Slice). u.first + u.count) same in
          let beyond : v.first + v.count ≤ j = omega arith in
          rw (lt-ltb i (v.first + v.count) here, le-ltb j (v.first + v.count) beyond) (omega arith)
      | inr past ↦
          let rest : slice_of slices i ≡ Some s = rw (le-ltb i (v.first + v.count) past) at is in
          let reach = slice_reaches slices i s rest in
          let beyond : v.first + v.count ≤ j = omega arith in
          let found = slot_strict slices i j s rest most in
          rw (le-ltb i (v.first + v.count) past, le-ltb j (v.first + v.count) beyond) (omega arith)
    ]

-- slices keep their own times, and those of the slices before them
own_time : (slices : List Slice) (k : ℕ) (s : Slice) → KeepTime slices → slice_get slices k ≡ Some s → s.begin ≤ s.end
own_time [] k s keep is = absurd (none_some is)
own_time (v ∷ slices) zero s keep is = let same = some_same is in rw (← same) (keep.0)
own_time (v ∷ slices) (suc k) s keep is = own_time slices k s keep.2 is

from_first : (slices : List Slice) (k : ℕ) (s : Slice) (time : ℕ) → KeepTime slices → BeginsFrom time (first_slice slices) → slice_get slices k ≡ Some s → time ≤ s.begin
from_first [] k s time keep from is = absurd (none_some is)
from_first (v ∷ slices) zero s time keep from is = let same = some_same is in rw (← same) from
from_first (v ∷ slices) (suc k) s time keep from is =
    let own = keep.0 in
    let rest = from_first slices k s v.end keep.2 keep.1 is in
    omega arith

-- a slice at a later place begins after the end of one before
pub places_apart : (slices : List Slice) (j k : ℕ) (s u : Slice) → KeepTime slices → slice_get slices j ≡ Some s → slice_get slices k ≡ Some u → j < k → s.end ≤ u.begin
places_apart [] j k s u keep is its less = absurd (none_some is)
places_apart (v ∷ slices) zero (suc k) s u keep is its less = let same = some_same is in rw (← same) (from_first slices k u v.end keep.2 keep.1 its)
places_apart (v ∷ slices) (suc j) (suc k) s u keep is its less = places_apart slices j k s u keep.2 is its (omega arith)
places_apart (v ∷ slices) zero zero s u keep is its less = absurd (omega arith)
places_apart (v ∷ slices) (suc j) zero s u keep is its less = absurd (omega arith)

pub place_time : (slices : List Slice) (k : ℕ) (s : Slice) → KeepTime slices → slice_get slices k ≡ Some s → s.begin ≤ s.end
place_time slices k s keep is = own_time slices k s keep is

-- a place before one that is there is there
pub place_before : (slices : List Slice) (j k : ℕ) (u : Slice) → slice_get slices k ≡ Some u → j ≤ k → (s : Slice) × (slice_get slices j ≡ Some s)
place_before [] j k u is least = absurd (none_some is)
place_before (v ∷ slices) zero k u is least = (v, refl)
place_before (v ∷ slices) (suc j) (suc k) u is least = place_before slices j k u is (omega arith)
place_before (v ∷ slices) (suc j) zero u is least = absurd (omega arith)

-- each row is in a slice
row_in_slice : (slices : List Slice) (from to i : ℕ) → TakeRows from slices to → i < to → from ≤ i → (s : Slice) × (slice_of slices i ≡ Some s)
row_in_slice [] from to i taken below least = absurd (omega arith)
row_in_slice (v ∷ slices) from to i taken below least =
    let first = taken.0 in
    elim (cases_lt i (v.first + v.count)) [
      | inl here ↦ (v, rw (lt-ltb i (v.first + v.count) here) refl)
      | inr past ↦ let rest = row_in_slice slices (from + v.count) to i taken.1 below (omega arith) in (rest.0, rw (le-ltb i (v.first + v.count) past) rest.1)
    ]

pub has_slice : (slices : List Slice) (n i : ℕ) → TakeRows 0 slices n → i < n → (s : Slice) × (slice_of slices i ≡ Some s)
has_slice slices n i taken below = row_in_slice slices 0 n i taken below (omega arith)

pub by_slot : (slices : List Slice) (i : ℕ) → slice_of slices i ≡ slice_get slices (slot slices i)
by_slot slices i = slot_of slices i

pub by_slot_after : (slices : List Slice) (i : ℕ) → slice_after slices i ≡ slice_get slices (suc (slot slices i))
by_slot_after slices i = slot_after slices i
