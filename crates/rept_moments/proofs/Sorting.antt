-- A stable sort by times gives the one list in their order.
use Rattle.std.proofs.Common.{◌≡◌, ℕ, suc, ◌<◌, ◌≤◌, ◌&&◌, not, eqb, nat_le, cond, Bool, true, false, List, [], ◌∷◌, length, get_or, inl, inr, refl, sym, ap, ◌∙◌, arith}
use Rattle.std.specs.List.{filter}
use Rattle.std.specs.List.Sorted.{IsNonDecreasingBy, ties, IsStableByKey}
use Rattle.std.specs.Fn.{Called, ComputesKey}
use denote.Ref.{Bor}
use denote.Param.Members.{Mut}
use Rattle.std.specs.Ordering.{nat_cmp, is_lt}
use Rattle.std.proofs.lemmas.Fn.{always_returns_same}
use Rattle.std.proofs.lemmas.Bool.{false≢true, cases_Bool, cases_order, eq-eqb, ne_eqb, eqb-true, lt-ltb, le-ltb, leb-true, le-leb}
use Rattle.rept_moments.specs.declared.side.Timed.{Timed}
use Rattle.rept_moments.specs.Ordering.{side, put, by_time}

-- each comes no later than those after it
abbrev Least : ℕ → List Timed → Type 0
Least n [] = Unit {0}
Least n (y ∷ ys) = (n ≤ y.time) × Least n ys

abbrev Rises : List Timed → Type 0
Rises [] = Unit {0}
Rises (x ∷ xs) = Least x.time xs × Rises xs

-- those of one time
abbrev of_time : ℕ → List Timed → List Timed
of_time d [] = []
of_time d (x ∷ xs) = cond (eqb x.time d) (x ∷ of_time d xs) (of_time d xs)

least_down : (m n : ℕ) (ys : List Timed) → m ≤ n → Least n ys → Least m ys
least_down m n [] less h = tt
least_down m n (y ∷ ys) less h = let first = h.0 in (omega arith, least_down m n ys less h.1)

least_put_by : (b : Bool) (n : ℕ) (x y : Timed) (ys rest : List Timed) → n ≤ x.time → Least n (y ∷ ys) → Least n rest → Least n (cond b (x ∷ y ∷ ys) (y ∷ rest))
least_put_by true n x y ys rest less h k = (less, h)
least_put_by false n x y ys rest less h k = (h.0, k)

least_put : (n : ℕ) (x : Timed) (ys : List Timed) → n ≤ x.time → Least n ys → Least n (put x ys)
least_put n x [] less h = (less, tt)
least_put n x (y ∷ ys) less h = least_put_by (nat_le x.time y.time) n x y ys (put x ys) less h (least_put n x ys less h.1)

rises_put : (x : Timed) (ys : List Timed) → Rises ys → Rises (put x ys)
rises_put x [] h = (tt, tt)
rises_put x (y ∷ ys) h =
    elim (cases_order x.time y.time) [
      | inl same ↦ rw (le-leb x.time y.time (omega arith)) ((omega arith, least_down x.time y.time ys (omega arith) h.0), h)
      | inr (inl less) ↦ rw (le-leb x.time y.time (omega arith)) ((omega arith, least_down x.time y.time ys (omega arith) h.0), h)
      | inr (inr more) ↦ rw (over x.time y.time more) (least_put y.time x ys (omega arith) h.0, rises_put x ys h.1)
    ]
  where
    over : (a b : ℕ) → b < a → nat_le a b ≡ false
    over a b less =
        elim (cases_Bool (nat_le a b)) [
          | inl e ↦ let k = leb-true a b e in absurd (omega arith)
          | inr e ↦ e
        ]

pub rises_sorted : (xs : List Timed) → Rises (by_time xs)
rises_sorted [] = tt
rises_sorted (x ∷ xs) = rises_put x (by_time xs) (rises_sorted xs)

-- two that are exchanged have different times
swap_times : (a b c : Bool) (x y : Timed) (zs : List Timed) → (c ≡ false → a ≡ true → b ≡ true → ⊥) → cond c (cond a (x ∷ cond b (y ∷ zs) zs) (cond b (y ∷ zs) zs)) (cond b (y ∷ cond a (x ∷ zs) zs) (cond a (x ∷ zs) zs)) ≡ cond a (x ∷ cond b (y ∷ zs) zs) (cond b (y ∷ zs) zs)
swap_times a b true x y zs out = refl
swap_times true true false x y zs out = absurd (out refl refl refl)
swap_times true false false x y zs out = refl
swap_times false true false x y zs out = refl
swap_times false false false x y zs out = refl

pull : (c : Bool) (d : ℕ) (xs ys : List Timed) → of_time d (cond c xs ys) ≡ cond c (of_time d xs) (of_time d ys)
pull true d xs ys = refl
pull false d xs ys = refl

times_put : (d : ℕ) (x : Timed) (ys : List Timed) → of_time d (put x ys) ≡ of_time d (x ∷ ys)
times_put d x [] = refl
times_put d x (y ∷ ys) =
    pull (nat_le x.time y.time) d (x ∷ y ∷ ys) (y ∷ put x ys)
    ∙ ap (λ (zs : List Timed). cond (nat_le x.time y.time) (of_time d (x ∷ y ∷ ys)) (cond (eqb y.time d) (y ∷ zs) zs)) (times_put d x ys)
    ∙ swap_times (eqb x.time d) (eqb y.time d) (nat_le x.time y.time) x y (of_time d ys) (λ out one other.
    let a = eqb-true x.time d one in
    let b = eqb-true y.time d other in
    false≢true (sym out ∙ le-leb x.time y.time (omega arith)))

times_sorted : (d : ℕ) (xs : List Timed) → of_time d (by_time xs) ≡ of_time d xs
times_sorted d [] = refl
times_sorted d (x ∷ xs) = times_put d x (by_time xs) ∙ ap (λ (zs : List Timed). cond (eqb x.time d) (x ∷ zs) zs) (times_sorted d xs)

none_early : (d n : ℕ) (ys : List Timed) → d < n → Least n ys → of_time d ys ≡ []
none_early d n [] less h = refl
none_early d n (y ∷ ys) less h = let first = h.0 in rw (ne_eqb y.time d (λ same. omega arith)) (none_early d n ys less h.1)

nil_cons : {x : Timed} {xs : List Timed} → [] ≡ x ∷ xs → ⊥
nil_cons e = cc

cons_first : {x y : Timed} {xs ys : List Timed} → x ∷ xs ≡ y ∷ ys → x ≡ y
cons_first e = cc

cons_rest : {x y : Timed} {xs ys : List Timed} → x ∷ xs ≡ y ∷ ys → xs ≡ ys
cons_rest e = cc

at_own : (x : Timed) (xs : List Timed) → of_time x.time (x ∷ xs) ≡ x ∷ of_time x.time xs
at_own x xs = ap (λ (b : Bool). cond b (x ∷ of_time x.time xs) (of_time x.time xs)) (eq-eqb x.time x.time refl)

rest_by : (b : Bool) (x y : Timed) (us vs : List Timed) → x ≡ y → cond b (x ∷ us) us ≡ cond b (y ∷ vs) vs → us ≡ vs
rest_by true x y us vs same e = cons_rest e
rest_by false x y us vs same e = e

pub only_one : (xs ys : List Timed) → Rises xs → Rises ys → ((d : ℕ) → of_time d xs ≡ of_time d ys) → xs ≡ ys
only_one [] [] up down same = refl
only_one [] (y ∷ ys) up down same = absurd (nil_cons (same y.time ∙ at_own y ys))
only_one (x ∷ xs) [] up down same = absurd (nil_cons (sym (same x.time) ∙ at_own x xs))
only_one (x ∷ xs) (y ∷ ys) up down same =
    elim (cases_order x.time y.time) [
      | inl tie ↦
          let own : of_time x.time (y ∷ ys) ≡ y ∷ of_time x.time ys = ap (λ (b : Bool). cond b (y ∷ of_time x.time ys) (of_time x.time ys)) (eq-eqb y.time x.time (sym tie)) in
          let first : x ≡ y = cons_first (sym (at_own x xs) ∙ same x.time ∙ own) in
          let rest : xs ≡ ys = only_one xs ys up.1 down.1 (λ d. rest_by (eqb x.time d) x y (of_time d xs) (of_time d ys) first (same d ∙ ap (λ (t : ℕ). cond (eqb t d) (y ∷ of_time d ys) (of_time d ys)) (sym tie))) in
          ap (λ (z : Timed). z ∷ xs) first ∙ ap (λ (zs : List Timed). y ∷ zs) rest
      | inr (inl less) ↦ absurd (nil_cons (sym (none_early x.time y.time (y ∷ ys) less (omega arith, down.0)) ∙ sym (same x.time) ∙ at_own x xs))
      | inr (inr more) ↦ absurd (nil_cons (sym (none_early y.time x.time (x ∷ xs) more (omega arith, up.0)) ∙ same y.time ∙ at_own y ys))
    ]

-- from what a stable sort ensures
least_from : (n : ℕ) (ys : List Timed) → ((k : ℕ) (d : Timed) → k < length ys → n ≤ (get_or ys k d).time) → Least n ys
least_from n [] h = tt
least_from n (y ∷ ys) h = (h 0 y (omega arith), least_from n ys (λ k d less. h (suc k) d (omega arith)))

rises_from : (xs : List Timed) → IsNonDecreasingBy (λ (x : Timed). x.time) xs → Rises xs
rises_from [] h = tt
rises_from (x ∷ xs) h = (least_from x.time xs (λ k d less. h 0 (suc k) d (omega arith) (omega arith)), rises_from xs (λ i j d order less. h (suc i) (suc j) d (omega arith) (omega arith)))

tie_is : (a b : ℕ) → (not (is_lt (nat_cmp a b)) && not (is_lt (nat_cmp b a))) ≡ eqb b a
tie_is a b =
    elim (cases_order a b) [
      | inl same ↦ rw (le-ltb a b (omega arith), le-ltb b a (omega arith), eq-eqb a b same, eq-eqb b a (sym same)) refl
      | inr (inl less) ↦ rw (lt-ltb a b less, ne_eqb b a (λ same. omega arith)) refl
      | inr (inr more) ↦ rw (lt-ltb b a more, le-ltb a b (omega arith), ne_eqb a b (λ same. omega arith), ne_eqb b a (λ same. omega arith)) refl
    ]

filter_is : (x : Timed) (xs : List Timed) → filter (ties (λ (a b : Timed). is_lt (nat_cmp a.time b.time)) x) xs ≡ of_time x.time xs
filter_is x [] = refl
filter_is x (y ∷ xs) = ap (λ (b : Bool). cond b (y ∷ filter (ties (λ (a b : Timed). is_lt (nat_cmp a.time b.time)) x) xs) (filter (ties (λ (a b : Timed). is_lt (nat_cmp a.time b.time)) x) xs)) (tie_is x.time y.time) ∙ ap (λ (zs : List Timed). cond (eqb y.time x.time) (y ∷ zs) zs) (filter_is x xs)

abbrev at_time : ℕ → Timed
at_time d = record { time = d; side = side 0 false }

pub sorted_is : (xs ys : List Timed) → IsNonDecreasingBy (λ (x : Timed). x.time) ys → IsStableByKey (λ (x : Timed). x.time) nat_cmp xs ys → ys ≡ by_time xs
sorted_is xs ys up stable = only_one ys (by_time xs) (rises_from ys up) (rises_sorted xs) (λ d. sym (filter_is (at_time d) ys) ∙ stable (at_time d) ∙ filter_is (at_time d) xs ∙ sym (times_sorted d xs))

pub stable_from : {F : Type 0} {g : Mut F (Bor Timed × Unit {0}) ℕ} {f : F} (n : Timed → ℕ) (xs ys : List Timed) → ((key : Timed → ℕ) → ComputesKey g key f → IsStableByKey key nat_cmp xs ys) → ((a : Bor Timed × Unit {0}) (r : ℕ) (f' : F) → Called g f a r f' → (r ≡ n a.0.now) × (f' ≡ f)) → IsStableByKey n nat_cmp xs ys
stable_from {g = g} {f = f} n xs ys stable h = stable n (always_returns_same g (λ a r. r ≡ n a.0.now) f h)
