-- Things in the order of time.
use Rattle.std.proofs.Common.{inl, inr, ℕ, ◌≤◌, nat_le, List, [], ◌∷◌, Bool, true, false, cond, Option, Some, None, arith}
use Rattle.std.specs.List.{filter}
use Rattle.std.proofs.lemmas.Bool.Decides.{leb_tells}
use Rattle.rept_streams.specs.Slices.Order.{put, by_time, head_of}

-- The property holds of each.
abbrev pub Each : {A : Type 0} → (A → Type 0) → List A → Type 0
Each P [] = Unit {0}
Each P (x ∷ xs) = P x × Each P xs

abbrev pub FromTime : {A : Type 0} → (A → ℕ) → ℕ → Option A → Type 0
FromTime time n None = Unit {0}
FromTime time n (Some y) = n ≤ time y

-- Each is of the time of the one before it, or of a later one.
abbrev pub Ascend : {A : Type 0} → (A → ℕ) → List A → Type 0
Ascend time [] = Unit {0}
Ascend time (x ∷ xs) = FromTime time (time x) (head_of xs) × Ascend time xs

module _ {A : Type 0} (time : A → ℕ) where
  head_put : (n : ℕ) (x : A) (ys : List A) → n ≤ time x → FromTime time n (head_of ys) → FromTime time n (head_of (put time x ys))
  head_put n x [] le h = le
  head_put n x (y ∷ ys) le h = go (nat_le (time x) (time y)) where
    go : (b : Bool) → FromTime time n (head_of (cond b (x ∷ y ∷ ys) (y ∷ put time x ys)))
    go true = le
    go false = h

  ascends_put : (x : A) (ys : List A) → Ascend time ys → Ascend time (put time x ys)
  ascends_put x [] h = (tt, tt)
  ascends_put x (y ∷ ys) h = elim (leb_tells (time x) (time y)) [
    | inl t ↦ rw t.0 (t.1, h)
    | inr t ↦ rw t.0 (head_put (time y) x ys (omega arith) h.0, ascends_put x ys h.1)
  ]

  pub ascends : (xs : List A) → Ascend time (by_time time xs)
  ascends [] = tt
  ascends (x ∷ xs) = ascends_put x (by_time time xs) (ascends xs)

  module _ (P : A → Type 0) where
    pub each_put : (x : A) (ys : List A) → P x → Each P ys → Each P (put time x ys)
    each_put x [] p h = (p, tt)
    each_put x (y ∷ ys) p h = go (nat_le (time x) (time y)) (each_put x ys p h.1) where
      go : (b : Bool) → Each P (put time x ys) → Each P (cond b (x ∷ y ∷ ys) (y ∷ put time x ys))
      go true rest = (p, h)
      go false rest = (h.0, rest)

    pub each_by_time : (xs : List A) → Each P xs → Each P (by_time time xs)
    each_by_time [] h = tt
    each_by_time (x ∷ xs) h = each_put x (by_time time xs) h.0 (each_by_time xs h.1)

module _ {A : Type 0} (P : A → Type 0) where
  pub each_filter : (test : A → Bool) (xs : List A) → Each P xs → Each P (filter test xs)
  each_filter test [] h = tt
  each_filter test (x ∷ xs) h = go (test x) (each_filter test xs h.1) where
    go : (b : Bool) → Each P (filter test xs) → Each P (cond b (x ∷ filter test xs) (filter test xs))
    go true rest = (h.0, rest)
    go false rest = rest

each_unput : {A : Type 0} (time : A → ℕ) (P : A → Type 0) (x : A) (ys : List A) → Each P (put time x ys) → P x × Each P ys
each_unput time P x [] h = (h.0, tt)
each_unput time P x (y ∷ ys) h = go (nat_le (time x) (time y)) (each_unput time P x ys) h where
  go : (b : Bool) → (Each P (put time x ys) → P x × Each P ys) → Each P (cond b (x ∷ y ∷ ys) (y ∷ put time x ys)) → P x × Each P (y ∷ ys)
  go true more k = k
  go false more k = let r = more k.1 in (r.0, (k.0, r.1))

pub each_of_time : {A : Type 0} (time : A → ℕ) (P : A → Type 0) (xs : List A) → Each P (by_time time xs) → Each P xs
each_of_time time P [] h = tt
each_of_time time P (x ∷ xs) h = let r = each_unput time P x (by_time time xs) h in (r.0, each_of_time time P xs r.1)
