-- Things in the order of time are so in one way.
use Rattle.std.proofs.Common.{Less, Equal, Greater, ◌≡◌, ◌⊎◌, inl, inr, ℕ, suc, ◌<◌, ◌≤◌, ◌==◌, nat_le, List, [], ◌∷◌, length, get_or, Bool, true, false, not, ◌&&◌, cond, refl, sym, ◌∙◌, ap, subst, arith}
use Rattle.std.specs.List.{filter}
use Rattle.std.specs.List.Sorted.{IsNonDecreasingBy, IsStableByKey, ties}
use Rattle.std.specs.Ordering.{nat_cmp, is_lt}
use Rattle.std.proofs.lemmas.Bool.Decides.{leb_tells, eqb_tells}
use Rattle.std.proofs.lemmas.List.Elements.{filter_agree}
use Rattle.std.proofs.lemmas.List.Kept.{IsNonDecreasingBy-filter}
use Rattle.rept_streams.specs.Slices.Order.{put, by_time, head_of}
use Rattle.rept_streams.proofs.SlicesLemmas.InTime.{Ascend, FromTime, ascends}

-- a filter and then another one
filters_swap : {A : Type 0} (p q : A → Bool) (xs : List A) → filter p (filter q xs) ≡ filter q (filter p xs)
filters_swap p q [] = refl
filters_swap {A} p q (x ∷ xs) = go (p x) (q x) refl refl (filters_swap p q xs) where
  go : (b c : Bool) → p x ≡ b → q x ≡ c → filter p (filter q xs) ≡ filter q (filter p xs) → filter p (cond (q x) (x ∷ filter q xs) (filter q xs)) ≡ filter q (cond (p x) (x ∷ filter p xs) (filter p xs))
  go true true hp hq same = rw hp (rw hq (rw hp (ap (λ (l : List A). x ∷ l) same)))
  go true false hp hq same = rw hp (rw hq same)
  go false true hp hq same = rw hp (rw hq (rw hp same))
  go false false hp hq same = rw hp (rw hq same)

module _ {A : Type 0} (time : A → ℕ) where
  -- those of the time of this one
  abbrev pub like : A → A → Bool
  like x y = time y == time x

  ascends_next : (y : A) (ys : List A) → ((i j : ℕ) (d : A) → i ≤ j → j < length (y ∷ ys) → time (get_or (y ∷ ys) i d) ≤ time (get_or (y ∷ ys) j d)) → FromTime time (time y) (head_of ys)
  ascends_next y [] h = tt
  ascends_next y (z ∷ ys) h = h 0 1 y (omega arith) (omega arith)

  pub ascends_by : (ys : List A) → IsNonDecreasingBy time ys → Ascend time ys
  ascends_by [] h = tt
  ascends_by (y ∷ ys) h = (ascends_next y ys h, ascends_by ys (λ i j d le lt. h (suc i) (suc j) d (omega (arith, le)) (omega (arith, lt))))

  pub none_like : (x y : A) (ys : List A) → time x < time y → Ascend time (y ∷ ys) → filter (like x) (y ∷ ys) ≡ []
  none_like x y [] lt a = elim (eqb_tells (time y) (time x)) [
    | inl t ↦ absurd (let e = t.1 in omega (arith, e, lt))
    | inr t ↦ rw t.0 refl
  ]
  none_like x y (z ∷ ys) lt a = elim (eqb_tells (time y) (time x)) [
    | inl t ↦ absurd (let e = t.1 in omega (arith, e, lt))
    | inr t ↦ rw t.0 (let le = a.0 in none_like x z ys (omega (arith, lt, le)) a.1)
  ]

  tails_like : (x y : A) (ys zs : List A) → filter (like x) (y ∷ ys) ≡ filter (like x) (y ∷ zs) → filter (like x) ys ≡ filter (like x) zs
  tails_like x y ys zs h = go (time y == time x) h where
    go : (b : Bool) → cond b (y ∷ filter (like x) ys) (filter (like x) ys) ≡ cond b (y ∷ filter (like x) zs) (filter (like x) zs) → filter (like x) ys ≡ filter (like x) zs
    go true h = cc
    go false h = h

  like_alike : (x y : A) (ys : List A) → time y ≡ time x → filter (like x) (y ∷ ys) ≡ y ∷ filter (like x) ys
  like_alike x y ys e = elim (eqb_tells (time y) (time x)) [
    | inl t ↦ rw t.0 refl
    | inr t ↦ absurd (t.1 e)
  ]

  pub one_order : (ys zs : List A) → Ascend time ys → Ascend time zs → ((x : A) → filter (like x) ys ≡ filter (like x) zs) → ys ≡ zs
  one_order [] [] a b h = refl
  one_order [] (z ∷ zs) a b h = absurd (let e : [] ≡ z ∷ filter (like z) zs = h z ∙ like_alike z z zs refl in cc)
  one_order (y ∷ ys) [] a b h = absurd (let e : y ∷ filter (like y) ys ≡ [] = sym (like_alike y y ys refl) ∙ h y in cc)
  one_order (y ∷ ys) (z ∷ zs) a b h = elim (leb_tells (time y) (time z)) [
    | inr t ↦ absurd (let e : [] ≡ z ∷ filter (like z) zs = sym (none_like z y ys t.1 a) ∙ h z ∙ like_alike z z zs refl in cc)
    | inl t ↦ elim (leb_tells (time z) (time y)) [
      | inr u ↦ absurd (let e : y ∷ filter (like y) ys ≡ [] = sym (like_alike y y ys refl) ∙ h y ∙ none_like y z zs u.1 b in cc)
      | inl u ↦
          let le = t.1 in
          let ge = u.1 in
          let same : time z ≡ time y = omega (arith, le, ge) in
          let e : y ∷ filter (like y) ys ≡ z ∷ filter (like y) zs = sym (like_alike y y ys refl) ∙ h y ∙ like_alike y z zs same in
          let first : y ≡ z = cc in
          let rest : ys ≡ zs = one_order ys zs a.1 b.1 (λ x. tails_like x y ys zs (h x ∙ ap (λ (w : A). filter (like x) (w ∷ zs)) (sym first))) in
          ap (λ (w : A). w ∷ ys) first ∙ ap (λ (l : List A). z ∷ l) rest
    ]
  ]

  like_put : (w x : A) (ys : List A) → filter (like w) (put time x ys) ≡ filter (like w) (x ∷ ys)
  like_put w x [] = refl
  like_put w x (y ∷ ys) = elim (leb_tells (time x) (time y)) [
    | inl t ↦ rw t.0 refl
    | inr t ↦ rw t.0 (ap (λ (l : List A). cond (time y == time w) (y ∷ l) l) (like_put w x ys) ∙ swapped t.1)
  ] where
    swapped : time y < time x → filter (like w) (y ∷ x ∷ ys) ≡ filter (like w) (x ∷ y ∷ ys)
    swapped lt = elim (eqb_tells (time y) (time w)) [
      | inr t ↦ rw t.0 (elim (eqb_tells (time x) (time w)) [ inl u ↦ rw u.0 refl | inr u ↦ rw u.0 refl ])
      | inl t ↦ elim (eqb_tells (time x) (time w)) [
        | inl u ↦ absurd (let e = t.1 in let f = u.1 in omega (arith, e, f, lt))
        | inr u ↦ rw t.0 (rw u.0 refl)
      ]
    ]

  like_by_time : (w : A) (xs : List A) → filter (like w) (by_time time xs) ≡ filter (like w) xs
  like_by_time w [] = refl
  like_by_time w (x ∷ xs) = like_put w x (by_time time xs) ∙ ap (λ (l : List A). cond (time x == time w) (x ∷ l) l) (like_by_time w xs)

  -- what is sorted and stable is in the order of time, and so is what is filtered of it
  pub ordered : (p : A → Bool) (xs ss : List A) → IsNonDecreasingBy time ss → ((x : A) → filter (like x) ss ≡ filter (like x) xs) → filter p ss ≡ by_time time (filter p xs)
  ordered p xs ss up h =
      one_order (filter p ss) (by_time time (filter p xs)) (ascends_by (filter p ss) (IsNonDecreasingBy-filter time p ss up)) (ascends time (filter p xs)) (λ x. filters_swap (like x) p ss ∙ ap (filter p) (h x) ∙ filters_swap p (like x) xs ∙ sym (like_by_time x (filter p xs)))

  lt_is : (a b : ℕ) → is_lt (nat_cmp a b) ≡ nat_le (suc a) b
  lt_is a b = go (nat_le (suc a) b) (a == b) where
    go : (c d : Bool) → is_lt (cond c Less (cond d Equal Greater)) ≡ c
    go true d = refl
    go false true = refl
    go false false = refl

  tie : (a b : ℕ) → (b == a) ≡ (not (is_lt (nat_cmp a b)) && not (is_lt (nat_cmp b a)))
  tie a b = rw (lt_is a b) (rw (lt_is b a) (elim (eqb_tells b a) [
    | inl t ↦ let e = t.1 in elim (leb_tells (suc a) b) [
      | inl u ↦ absurd (let lt = u.1 in omega (arith, e, lt))
      | inr u ↦ elim (leb_tells (suc b) a) [
        | inl v ↦ absurd (let lt = v.1 in omega (arith, e, lt))
        | inr v ↦ rw t.0 (rw u.0 (rw v.0 refl))
      ]
    ]
    | inr t ↦ elim (leb_tells (suc a) b) [
      | inl u ↦ rw t.0 (rw u.0 refl)
      | inr u ↦ elim (leb_tells (suc b) a) [
        | inl v ↦ rw t.0 (rw u.0 (rw v.0 refl))
        | inr v ↦ absurd (t.1 (let lt = u.1 in let gt = v.1 in omega (arith, lt, gt)))
      ]
    ]
  ]))

  pub like_stable : (xs ys : List A) → IsStableByKey time nat_cmp xs ys → (x : A) → filter (like x) ys ≡ filter (like x) xs
  like_stable xs ys h x =
      let lt : A → A → Bool = λ a b. is_lt (nat_cmp (time a) (time b)) in
      filter_agree (like x) (ties lt x) (λ y. tie (time x) (time y)) ys ∙ h x ∙ sym (filter_agree (like x) (ties lt x) (λ y. tie (time x) (time y)) xs)

-- sorted by time, and then by another number
pub sorted_twice : {A : Type 0} (time process : A → ℕ) (n : ℕ) (xs by_begin ss : List A) → IsNonDecreasingBy time by_begin → IsStableByKey time nat_cmp xs by_begin → IsStableByKey process nat_cmp by_begin ss → filter (λ x. process x == n) ss ≡ by_time time (filter (λ x. process x == n) xs)
sorted_twice {A} time process n xs by_begin ss up stable again = same ∙ ordered time test xs by_begin up (like_stable time xs by_begin stable) where
  test : A → Bool
  test x = process x == n

  -- an element of that number, or none
  found : (l : List A) → ((x : A) × (process x ≡ n)) ⊎ (filter test l ≡ [])
  found [] = inr refl
  found (x ∷ l) = elim (eqb_tells (process x) n) [
    | inl t ↦ inl (x, t.1)
    | inr t ↦ elim (found l) [ inl f ↦ inl f | inr none ↦ inr (rw t.0 none) ]
  ]

  by_one : (x : A) → process x ≡ n → filter test ss ≡ filter test by_begin
  by_one x e = subst (λ (m : ℕ). filter (λ y. process y == m) ss ≡ filter (λ y. process y == m) by_begin) e (like_stable process by_begin ss again x)

  same : filter test ss ≡ filter test by_begin
  same = elim (found ss) [
    | inl f ↦ by_one f.0 f.1
    | inr none ↦ elim (found by_begin) [ inl f ↦ by_one f.0 f.1 | inr neither ↦ none ∙ sym neither ]
  ]
