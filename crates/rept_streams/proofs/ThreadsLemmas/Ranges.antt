-- The elements of one number, of a list in which numbers don't fall.
use Rattle.std.proofs.Common.{◌≡◌, ◌⊎◌, inl, inr, ℕ, zero, suc, ◌+◌, ◌-◌, ◌<◌, ◌≤◌, ◌==◌, List, [], ◌∷◌, ◌++◌, length, length-drop, get_or, take, drop, Bool, true, false, cond, refl, sym, ◌∙◌, ap, arith}
use Rattle.std.specs.Prelude.{nat_le, nat_lt}
use Rattle.std.specs.List.{filter}
use Rattle.std.specs.List.Sorted.{IsPartitionPoint}
use Rattle.std.proofs.lemmas.Bool.Decides.{leb_tells, eqb_tells}
use Rattle.std.proofs.lemmas.List.{get_or-drop, take-append-drop}
use Rattle.std.proofs.lemmas.List.Elements.{filter-append}

module _ {A : Type 0} (n : A → ℕ) (t : ℕ) where
  -- those before a place are below the number, and those from it on aren't; those before another
  -- one are at most it, and those from there on are above it
  pub record Bounds (xs : List A) (from to : ℕ) : Type 0 where
    pub below : (k : ℕ) (d : A) → k < from → n (get_or xs k d) < t
    pub not_below : (k : ℕ) (d : A) → from ≤ k → k < length xs → t ≤ n (get_or xs k d)
    pub within : (k : ℕ) (d : A) → k < to → n (get_or xs k d) ≤ t
    pub above : (k : ℕ) (d : A) → to ≤ k → k < length xs → t < n (get_or xs k d)

  abbrev pub test : A → Bool
  test x = n x == t

  skipped : (x : A) (xs : List A) → n x < t ⊎ t < n x → filter test (x ∷ xs) ≡ filter test xs
  skipped x xs h = elim (eqb_tells (n x) t) [
    | inl e ↦ absurd (let same = e.1 in elim h [ inl lt ↦ omega (arith, same, lt) | inr gt ↦ omega (arith, same, gt) ])
    | inr e ↦ ap (λ (b : Bool). cond b (x ∷ filter test xs) (filter test xs)) e.0
  ]

  taken : (x : A) (xs : List A) → n x ≡ t → filter test (x ∷ xs) ≡ x ∷ filter test xs
  taken x xs h = elim (eqb_tells (n x) t) [
    | inl e ↦ ap (λ (b : Bool). cond b (x ∷ filter test xs) (filter test xs)) e.0
    | inr e ↦ absurd (e.1 h)
  ]

  pub range_is : (xs : List A) (from to : ℕ) → to ≤ length xs → Bounds xs from to → take (to - from) (drop from xs) ≡ filter test xs
  range_is [] zero zero le b = refl
  range_is [] (suc f) zero le b = let z : zero - suc f ≡ 0 = omega arith in ap (λ (m : ℕ). take m (drop (suc f) [])) z
  range_is [] f (suc g) le b = absurd (omega (arith, le))
  range_is (x ∷ xs) (suc f) (suc g) le b =
      let lt = b.below 0 x (omega arith) in
      let e : suc g - suc f ≡ g - f = omega arith in
      ap (λ (m : ℕ). take m (drop f xs)) e ∙ range_is xs f g (omega (arith, le)) (record {
        below = λ k d h. b.below (suc k) d (omega (arith, h));
        not_below = λ k d h i. b.not_below (suc k) d (omega (arith, h)) (omega (arith, i));
        within = λ k d h. b.within (suc k) d (omega (arith, h));
        above = λ k d h i. b.above (suc k) d (omega (arith, h)) (omega (arith, i));
      }) ∙ sym (skipped x xs (inl lt))
  range_is (x ∷ xs) (suc f) zero le b = absurd (let lt = b.below 0 x (omega arith) in let gt = b.above 0 x (omega arith) (omega arith) in omega (arith, lt, gt))
  range_is (x ∷ xs) zero (suc g) le b =
      let low = b.not_below 0 x (omega arith) (omega arith) in
      let high = b.within 0 x (omega arith) in
      let e : suc g - zero ≡ suc g = omega arith in
      let z : g - zero ≡ g = omega arith in
      ap (λ (m : ℕ). take m (x ∷ xs)) e ∙ ap (λ (ys : List A). x ∷ ys) (sym (ap (λ (m : ℕ). take m xs) z) ∙ range_is xs zero g (omega (arith, le)) (record {
        below = λ k d h. absurd (omega (arith, h));
        not_below = λ k d h i. b.not_below (suc k) d (omega arith) (omega (arith, i));
        within = λ k d h. b.within (suc k) d (omega (arith, h));
        above = λ k d h i. b.above (suc k) d (omega (arith, h)) (omega (arith, i));
      })) ∙ sym (taken x xs (omega (arith, low, high)))
  range_is (x ∷ xs) zero zero le b =
      let gt = b.above 0 x (omega arith) (omega arith) in
      range_is xs zero zero (omega arith) (record {
        below = λ k d h. absurd (omega (arith, h));
        not_below = λ k d h i. b.not_below (suc k) d (omega arith) (omega (arith, i));
        within = λ k d h. absurd (omega (arith, h));
        above = λ k d h i. b.above (suc k) d (omega arith) (omega (arith, i));
      }) ∙ sym (skipped x xs (inr gt))

  -- those before a place, which are below the number
  none_low : (xs : List A) (from : ℕ) → ((k : ℕ) (d : A) → k < from → n (get_or xs k d) < t) → filter test (take from xs) ≡ []
  none_low [] zero h = refl
  none_low [] (suc f) h = refl
  none_low (x ∷ xs) zero h = refl
  none_low (x ∷ xs) (suc f) h = skipped x (take f xs) (inl (h 0 x (omega arith))) ∙ none_low xs f (λ k d lt. h (suc k) d (omega (arith, lt)))

  less_of : (a b : ℕ) → nat_lt a b ≡ true → a < b
  less_of a b h = elim (leb_tells (suc a) b) [ inl x ↦ x.1 | inr x ↦ absurd (let e = x.0 in cc) ]

  not_less : (a b : ℕ) → nat_lt a b ≡ false → b ≤ a
  not_less a b h = elim (leb_tells (suc a) b) [ inl x ↦ absurd (let e = x.0 in cc) | inr x ↦ (let le = x.1 in omega (arith, le)) ]

  most_of : (a b : ℕ) → nat_le a b ≡ true → a ≤ b
  most_of a b h = elim (leb_tells a b) [ inl x ↦ x.1 | inr x ↦ absurd (let e = x.0 in cc) ]

  not_most : (a b : ℕ) → nat_le a b ≡ false → b < a
  not_most a b h = elim (leb_tells a b) [ inl x ↦ absurd (let e = x.0 in cc) | inr x ↦ x.1 ]

  -- from where two binary searches end, the second one of what the first one leaves
  pub range_of : (xs rest : List A) (from count : ℕ) → from ≤ length xs → rest ≡ drop from xs → count ≤ length rest → IsPartitionPoint (λ y. nat_lt (n y) t ≡ true) (λ y. nat_lt (n y) t ≡ false) xs from
      → IsPartitionPoint (λ y. nat_le (n y) t ≡ true) (λ y. nat_le (n y) t ≡ false) rest count → take count rest ≡ filter test xs
  range_of xs rest from count within rest_is few a b =
      let size = ap (length {A = A}) rest_is in
      let d = length-drop from xs in
      let bounds : Bounds rest 0 count = record {
        below = λ k e h. absurd (omega (arith, h));
        not_below = λ k e h i. (
            let at : get_or rest k e ≡ get_or xs (from + k) e = ap (λ (ys : List A). get_or ys k e) rest_is ∙ get_or-drop from xs k e in
            let same = ap n at in
            let le = not_less (n (get_or xs (from + k) e)) t (a.1 (from + k) e (omega arith) (omega (arith, i, size, d, within))) in
            omega (arith, same, le)
            );
        within = λ k e h. most_of (n (get_or rest k e)) t (b.0 k e (omega arith) h);
        above = λ k e h i. not_most (n (get_or rest k e)) t (b.1 k e h i);
      } in
      let z : count - 0 ≡ count = omega arith in
      let low : filter test (take from xs) ≡ [] = none_low xs from (λ k e h. less_of (n (get_or xs k e)) t (a.0 k e (omega arith) h)) in
      sym (ap (λ (m : ℕ). take m rest) z) ∙ range_is rest 0 count few bounds ∙ ap (filter test) rest_is ∙ sym (ap (λ (ys : List A). ys ++ filter test (drop from xs)) low) ∙ sym (filter-append test (take from xs) (drop from xs)) ∙ ap (filter test) (take-append-drop from xs)
