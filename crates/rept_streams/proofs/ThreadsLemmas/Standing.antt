-- Things that stand in order by two numbers already.
use Rattle.std.proofs.Common.{◌≡◌, inl, inr, ℕ, suc, ◌+◌, ◌<◌, ◌≤◌, ◌==◌, nat_le, nat_lt, List, [], ◌∷◌, length, get_or, Bool, true, false, ◌&&◌, ◌||◌, refl, sym, ◌∙◌, ap, subst, arith}
use Rattle.std.specs.List.{AllAdjacentBelow, filter}
use Rattle.std.specs.List.Sorted.{IsNonDecreasingBy}
use Rattle.std.proofs.lemmas.Bool.Decides.{leb_tells, eqb_tells}
use Rattle.std.proofs.lemmas.List.Sorted.{IsNonDecreasingBy-from_all_adjacent}
use Rattle.rept_streams.specs.Slices.Order.{put, by_time, head_of}
use Rattle.rept_streams.proofs.SlicesLemmas.InTime.{Ascend, FromTime}

module _ {A : Type 0} (time process : A → ℕ) where
  -- whether one may stand right before another one
  abbrev pub turn : A → A → Bool
  turn x y = nat_lt (process x) (process y) || (process x == process y && nat_le (time x) (time y))

  pub rises : (x y : A) → turn x y ≡ true → process x ≤ process y
  rises x y h = elim (leb_tells (suc (process x)) (process y)) [
    | inl t ↦ let lt = t.1 in omega (arith, lt)
    | inr t ↦ elim (eqb_tells (process x) (process y)) [
      | inl u ↦ let e = u.1 in omega (arith, e)
      | inr u ↦ absurd (let bad : false ≡ true = sym (both t.0 u.0) ∙ h in cc)
    ]
  ] where
    both : nat_le (suc (process x)) (process y) ≡ false → (process x == process y) ≡ false → turn x y ≡ false
    both a b = rw a (rw b refl)

  -- of one process, the times don't fall
  pub follows : (x y : A) → turn x y ≡ true → process x ≡ process y → time x ≤ time y
  follows x y h e = elim (leb_tells (suc (process x)) (process y)) [
    | inl t ↦ absurd (let lt = t.1 in omega (arith, lt, e))
    | inr t ↦ elim (leb_tells (time x) (time y)) [
      | inl u ↦ u.1
      | inr u ↦ absurd (let bad : false ≡ true = sym (neither t.0 u.0) ∙ h in cc)
    ]
  ] where
    and_false : (b : Bool) → (b && false) ≡ false
    and_false true = refl
    and_false false = refl

    neither : nat_le (suc (process x)) (process y) ≡ false → nat_le (time x) (time y) ≡ false → turn x y ≡ false
    neither a b = rw a (rw b (and_false (process x == process y)))

  abbrev pub Turns : List A → Type 0
  Turns xs = AllAdjacentBelow (λ x y. turn x y ≡ true) xs (length xs)

  turns_tail : (x : A) (xs : List A) → Turns (x ∷ xs) → Turns xs
  turns_tail x xs h = λ k d lt. subst (λ (m : ℕ). turn (get_or xs k d) (get_or (x ∷ xs) m d) ≡ true) {x = suc k + 1} {y = suc (k + 1)} (omega arith) (h (suc k) d (omega (arith, lt)))

  pub processes_rise : (xs : List A) → Turns xs → IsNonDecreasingBy process xs
  processes_rise xs h = IsNonDecreasingBy-from_all_adjacent process xs (λ k d lt. rises _ _ (h k d lt))

  -- none of a process is left once a higher one has come
  none_left : (n : ℕ) (y : A) (ys : List A) → n < process y → Turns (y ∷ ys) → filter (λ x. process x == n) (y ∷ ys) ≡ []
  none_left n y [] lt h = elim (eqb_tells (process y) n) [
    | inl t ↦ absurd (let e = t.1 in omega (arith, e, lt))
    | inr t ↦ rw t.0 refl
  ]
  none_left n y (z ∷ zs) lt h = elim (eqb_tells (process y) n) [
    | inl t ↦ absurd (let e = t.1 in omega (arith, e, lt))
    | inr t ↦ rw t.0 (let le = rises y z (h 0 y (omega arith)) in none_left n z zs (omega (arith, lt, le)) (turns_tail y (z ∷ zs) h))
  ]

  next_from : (n : ℕ) (x : A) (xs : List A) → process x ≡ n → Turns (x ∷ xs) → FromTime time (time x) (head_of (filter (λ y. process y == n) xs))
  next_from n x [] e h = tt
  next_from n x (y ∷ ys) e h = elim (eqb_tells (process y) n) [
    | inl t ↦ rw t.0 (let same = t.1 in follows x y (h 0 x (omega arith)) (e ∙ sym same))
    | inr t ↦ (let le = rises x y (h 0 x (omega arith)) in let lt : n < process y = above le t.1 in rw (none_left n y ys lt (turns_tail x (y ∷ ys) h)) tt)
  ] where
    above : process x ≤ process y → (process y ≡ n → ⊥) → n < process y
    above le ne = elim (leb_tells (process y) n) [
      | inl u ↦ absurd (ne (let ge = u.1 in omega (arith, le, ge, e)))
      | inr u ↦ u.1
    ]

  ascends_already : (n : ℕ) (xs : List A) → Turns xs → Ascend time (filter (λ x. process x == n) xs)
  ascends_already n [] h = tt
  ascends_already n (x ∷ xs) h = elim (eqb_tells (process x) n) [
    | inl t ↦ rw t.0 (next_from n x xs t.1 h, ascends_already n xs (turns_tail x xs h))
    | inr t ↦ rw t.0 (ascends_already n xs (turns_tail x xs h))
  ]

  put_first : (x : A) (xs : List A) → FromTime time (time x) (head_of xs) → put time x xs ≡ x ∷ xs
  put_first x [] h = refl
  put_first x (y ∷ ys) h = elim (leb_tells (time x) (time y)) [
    | inl t ↦ rw t.0 refl
    | inr t ↦ absurd (let lt = t.1 in omega (arith, h, lt))
  ]

  in_time : (xs : List A) → Ascend time xs → by_time time xs ≡ xs
  in_time [] h = refl
  in_time (x ∷ xs) h = ap (put time x) (in_time xs h.1) ∙ put_first x xs h.0

  -- those of a process stand in the order of time
  pub stands : (n : ℕ) (xs : List A) → Turns xs → filter (λ x. process x == n) xs ≡ by_time time (filter (λ x. process x == n) xs)
  stands n xs h = sym (in_time (filter (λ x. process x == n) xs) (ascends_already n xs h))
