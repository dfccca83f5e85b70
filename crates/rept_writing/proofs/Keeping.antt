-- The single addresses of a row of few, and what is kept when a row is added.
use Rattle.std.proofs.Common.{◌≡◌, ℕ, zero, suc, ◌+◌, ◌-◌, ◌<◌, ◌≤◌, ◌^◌, ◌⊎◌, ◌||◌, Bool, true, false, List, [], ◌∷◌, ◌++◌, length, Option, Some, None, inl, inr, refl, sym, ◌∙◌, ap, subst, arith}
use Rattle.std.specs.Prelude.{slice_get, set, get_or, if◌then◌else◌}
use Rattle.std.specs.List.{All, Contains}
use Rattle.std.proofs.lemmas.Bool.{cases_lt, cases_eq}
use Rattle.std.proofs.lemmas.List.{get_or_append_left, get_or_push, length-append, length-set, length-take-le}
use Rattle.std.proofs.Math.ListN.{take}
use Rattle.std.proofs.Math.Seq.{take-suc}
use Rattle.std.proofs.lemmas.List.Elements.{All-nil, All-push, All-append, All-weaker, All-contains, Contains-append_left, Contains-append_right, Contains-append_cases, Contains-push}
use Rattle.std.proofs.lemmas.List.Sorted.{IsNonDecreasingBy-push}
use Rattle.std.proofs.lemmas.Option.{slice_get_within}
use Rattle.rept_isa.specs.Numbers.{beside}
use Rattle.rept_alias.specs.Accesses.{hits, hits_part, call_hits, distance}
use Rattle.rept_alias.specs.declared.addresses.Access.{Access}
use Rattle.rept_alias.specs.declared.addresses.CallAccess.{CallAccess}
use Rattle.rept_writing.specs.declared.list.Writing.{Writing}
use Rattle.rept_writing.specs.declared.narrow.Hit.{Hit}
use Rattle.rept_writing.specs.Hits.{hits_at, writing_hits}
use Rattle.rept_writing.specs.Filed.{IsFiled, IsKeptByAddress, StartsAtWord, hit, hits_from, hits_of, hits_of_part, size, size_of_part}

few_of : (b : Bool) (n : ℕ) → (if b then 2 ^ 32 else n) ≤ 8 → (b ≡ false) × ((if b then 2 ^ 32 else n) ≡ n)
few_of true n h = absurd (omega (arith, h))
few_of false n h = (refl, refl)

-- the address so many steps after the first one
step_hits : (x : Access) (n : ℕ) → x.lo < 2 ^ 32 → n ≤ distance x.lo x.hi → hits x (beside x.lo n) ≡ true
step_hits x n small low =
    let d : distance x.lo (beside x.lo n) ≡ n = omega arith in
    grind (arith, d, low)

step_of : (x : Access) (a : ℕ) → x.lo < 2 ^ 32 → a < 2 ^ 32 → x.all ≡ false → hits x a ≡ true → (distance x.lo a ≤ distance x.lo x.hi) × (a ≡ beside x.lo (distance x.lo a))
step_of x a small fits one h = (grind (arith, one, h), omega arith)

-- that an address with an index is one of a part
abbrev pub IsOf : Option Access → ℕ → Hit → Type 0
IsOf part j h = (h.index ≡ j) × (hits_part part h.address ≡ true)

from_sound : (x : Access) (n j : ℕ) → x.lo < 2 ^ 32 → n ≤ distance x.lo x.hi + 1 → All (IsOf (Some x) j) (hits_from x.lo n j)
from_sound x zero j small low = All-nil (IsOf (Some x) j)
from_sound x (suc n) j small low = All-push (IsOf (Some x) j) (hits_from x.lo n j) (hit (beside x.lo n) j) (from_sound x n j small (omega (arith, low))) (refl, step_hits x n small (omega (arith, low)))

from_complete : (first n m j : ℕ) → n < m → Contains (hits_from first m j) (hit (beside first n) j)
from_complete first n zero j lt = absurd (omega (arith, lt))
from_complete first n (suc m) j lt = elim (cases_lt n m) [
  | inl less ↦ Contains-append_left (hits_from first m j) (hit (beside first m) j ∷ []) (hit (beside first n) j) (from_complete first n m j less)
  | inr le ↦ let e : m ≡ n = omega (arith, lt, le) in subst (λ (i : ℕ). Contains (hits_from first m j ++ hit (beside first m) j ∷ []) (hit (beside first i) j)) e (Contains-push (hits_from first m j) (hit (beside first m) j))
]

part_sound : (part : Option Access) (j : ℕ) → StartsAtWord part → size_of_part part ≤ 8 → All (IsOf part j) (hits_of_part part j)
part_sound None j small few = All-nil (IsOf None j)
part_sound (Some x) j small few = from_sound x (size x) j small (omega (arith, (few_of x.all (distance x.lo x.hi + 1) few).1))

part_complete : (part : Option Access) (a j : ℕ) → StartsAtWord part → size_of_part part ≤ 8 → a < 2 ^ 32 → hits_part part a ≡ true → Contains (hits_of_part part j) (hit a j)
part_complete None a j small few fits h = absurd (cc)
part_complete (Some x) a j small few fits h =
    let f = few_of x.all (distance x.lo x.hi + 1) few in
    let s = step_of x a small fits f.0 h in
    subst (λ (b : ℕ). Contains (hits_from x.lo (size x) j) (hit b j)) (sym s.1) (from_complete x.lo (distance x.lo a) (size x) j (omega (arith, f.1, s.0)))

-- that an address with an index is one of a row
abbrev pub IsOfRow : CallAccess → ℕ → Hit → Type 0
IsOfRow access j h = (h.index ≡ j) × (call_hits access h.address ≡ true)

or_left : (a b : Bool) → a ≡ true → (a || b) ≡ true
or_left a b h = grind (arith, h)

or_right : (a b : Bool) → b ≡ true → (a || b) ≡ true
or_right true b h = refl
or_right false b h = h

or_cases : (a b : Bool) → (a || b) ≡ true → (a ≡ true) ⊎ (b ≡ true)
or_cases true b h = inl refl
or_cases false b h = inr h

row_sound : (access : CallAccess) (j : ℕ) (old new : List Hit) → IsKeptByAddress access j old new → All (IsOfRow access j) (hits_of access j)
row_sound access j old new kept =
    All-append (IsOfRow access j) (hits_of_part access.first j) (hits_of_part access.second j)
    (All-weaker (IsOf access.first j) (IsOfRow access j) (λ h o. (o.0, or_left (hits_part access.first h.address) (hits_part access.second h.address) o.1)) (hits_of_part access.first j) (part_sound access.first j kept.first (omega (arith, kept.few))))
    (All-weaker (IsOf access.second j) (IsOfRow access j) (λ h o. (o.0, or_right (hits_part access.first h.address) (hits_part access.second h.address) o.1)) (hits_of_part access.second j) (part_sound access.second j kept.second (omega (arith, kept.few))))

row_complete : (access : CallAccess) (j a : ℕ) (old new : List Hit) → IsKeptByAddress access j old new → a < 2 ^ 32 → call_hits access a ≡ true → Contains (hits_of access j) (hit a j)
row_complete access j a old new kept fits h = elim (or_cases (hits_part access.first a) (hits_part access.second a) h) [
  | inl first ↦ Contains-append_left (hits_of_part access.first j) (hits_of_part access.second j) (hit a j) (part_complete access.first a j kept.first (omega (arith, kept.few)) fits first)
  | inr second ↦ Contains-append_right (hits_of_part access.first j) (hits_of_part access.second j) (hit a j) (part_complete access.second a j kept.second (omega (arith, kept.few)) fits second)
]

slice_get_front : (xs ys : List Writing) (j : ℕ) → j < length xs → slice_get (xs ++ ys) j ≡ slice_get xs j
slice_get_front [] ys j lt = absurd (omega (arith, lt))
slice_get_front (x ∷ xs) ys zero lt = refl
slice_get_front (x ∷ xs) ys (suc j) lt = slice_get_front xs ys j (omega (arith, lt))

slice_get_end : (xs : List Writing) (w : Writing) → slice_get (xs ++ w ∷ []) (length xs) ≡ Some w
slice_get_end [] w = refl
slice_get_end (x ∷ xs) w = slice_get_end xs w

within : (list : List Writing) (w : Option Writing) (h a : ℕ) → slice_get list h ≡ w → writing_hits w a ≡ true → h < length list
within list (Some w) h a is hit = slice_get_within list h w is
within list None h a is hit = absurd (cc)

pub inside_of : (list : List Writing) (h a : ℕ) → hits_at list h a ≡ true → h < length list
inside_of list h a hit = within list (slice_get list h) h a refl hit

front_hits : (list : List Writing) (w : Writing) (j a : ℕ) → j < length list → hits_at (list ++ w ∷ []) j a ≡ hits_at list j a
front_hits list w j a lt = ap (λ x. writing_hits x a) (slice_get_front list (w ∷ []) j lt)

end_hits : (list : List Writing) (w : Writing) (a : ℕ) → hits_at (list ++ w ∷ []) (length list) a ≡ call_hits w.access a
end_hits list w a = ap (λ x. writing_hits x a) (slice_get_end list w)

more_hits : (list : List Writing) (w : Writing) (j a : ℕ) → hits_at list j a ≡ true → hits_at (list ++ w ∷ []) j a ≡ true
more_hits list w j a h = front_hits list w j a (inside_of list j a h) ∙ h

more_cases : (list : List Writing) (w : Writing) (j a : ℕ) → hits_at (list ++ w ∷ []) j a ≡ true → (hits_at list j a ≡ true) ⊎ ((j ≡ length list) × (call_hits w.access a ≡ true))
more_cases list w j a h = elim (cases_lt j (length list)) [
  | inl lt ↦ inl (sym (front_hits list w j a lt) ∙ h)
  | inr le ↦ let e : j ≡ length list = omega (arith, le, inside_of (list ++ w ∷ []) j a h, length-append list (w ∷ [])) in inr (e, sym (end_hits list w a) ∙ subst (λ (i : ℕ). hits_at (list ++ w ∷ []) i a ≡ true) e h)
]

more_sound : (list : List Writing) (w : Writing) (narrow : List Hit) → All (λ h. hits_at list h.index h.address ≡ true) narrow → All (λ h. hits_at (list ++ w ∷ []) h.index h.address ≡ true) narrow
more_sound list w narrow sound = All-weaker (λ (h : Hit). hits_at list h.index h.address ≡ true) (λ (h : Hit). hits_at (list ++ w ∷ []) h.index h.address ≡ true) (λ h was. more_hits list w h.index h.address was) narrow sound

more_inside : (list : List Writing) (w : Writing) (wide : List ℕ) → All (λ j. j < length list) wide → All (λ j. j < length (list ++ w ∷ [])) wide
more_inside list w wide inside = All-weaker (λ (j : ℕ). j < length list) (λ (j : ℕ). j < length (list ++ w ∷ [])) (λ j lt. omega (arith, lt, length-append list (w ∷ []))) wide inside

pub set_elsewhere : (xs : List Writing) (i j : ℕ) (w : Writing) → (j ≡ i → ⊥) → slice_get (set xs i w) j ≡ slice_get xs j
set_elsewhere [] zero j w ne = refl
set_elsewhere [] (suc i) j w ne = refl
set_elsewhere (x ∷ xs) zero zero w ne = absurd (ne refl)
set_elsewhere (x ∷ xs) zero (suc j) w ne = refl
set_elsewhere (x ∷ xs) (suc i) zero w ne = refl
set_elsewhere (x ∷ xs) (suc i) (suc j) w ne = set_elsewhere xs i j w (λ e. ne (ap suc e))

pub set_there : (xs : List Writing) (i : ℕ) (w : Writing) → i < length xs → slice_get (set xs i w) i ≡ Some w
set_there [] i w lt = absurd (omega (arith, lt))
set_there (x ∷ xs) zero w lt = refl
set_there (x ∷ xs) (suc i) w lt = set_there xs i w (omega (arith, lt))

-- a row of few was added
pub filed_narrow : (list : List Writing) (narrow new : List Hit) (wide : List ℕ) (w : Writing) → IsFiled list narrow wide → IsKeptByAddress w.access (length list) narrow new → IsFiled (list ++ w ∷ []) new wide
filed_narrow list narrow new wide w filed kept = record {
  sound = subst (All (λ (h : Hit). hits_at (list ++ w ∷ []) h.index h.address ≡ true)) (sym kept.is) (All-append (λ (h : Hit). hits_at (list ++ w ∷ []) h.index h.address ≡ true) narrow (hits_of w.access (length list)) (more_sound list w narrow filed.sound) last);
  complete = λ j a fits h. subst (λ (xs : List Hit). Contains xs (hit a j) ⊎ Contains wide j) (sym kept.is) (elim (more_cases list w j a h) [
    | inl was ↦ elim (filed.complete j a fits was) [ inl there ↦ inl (Contains-append_left narrow (hits_of w.access (length list)) (hit a j) there) | inr there ↦ inr there ]
    | inr (e, now) ↦ inl (Contains-append_right narrow (hits_of w.access (length list)) (hit a j) (subst (λ (i : ℕ). Contains (hits_of w.access (length list)) (hit a i)) (sym e) (row_complete w.access (length list) a narrow new kept fits now)))
  ]);
  rising = filed.rising;
  each_once = filed.each_once;
  inside = more_inside list w wide filed.inside;
  few = omega (arith, filed.few, length-append list (w ∷ []));
  apart = subst (All (λ (h : Hit). Contains wide h.index → ⊥)) (sym kept.is) (All-append (λ (h : Hit). Contains wide h.index → ⊥) narrow (hits_of w.access (length list)) filed.apart (All-weaker (IsOfRow w.access (length list)) (λ (h : Hit). Contains wide h.index → ⊥) (λ h o there. new_index h.index o.0 there) (hits_of w.access (length list)) (row_sound w.access (length list) narrow new kept)));
}
  where
    new_index : (i : ℕ) → i ≡ length list → Contains wide i → ⊥
    new_index i e there = let lt = All-contains (λ (j : ℕ). j < length list) wide i filed.inside there in omega (arith, e, lt)

    last : All (λ h. hits_at (list ++ w ∷ []) h.index h.address ≡ true) (hits_of w.access (length list))
    last = All-weaker (IsOfRow w.access (length list)) (λ (h : Hit). hits_at (list ++ w ∷ []) h.index h.address ≡ true) (λ h o. subst (λ (i : ℕ). hits_at (list ++ w ∷ []) i h.address ≡ true) (sym o.0) (end_hits list w h.address ∙ o.1)) (hits_of w.access (length list)) (row_sound w.access (length list) narrow new kept)

-- a row of many was added
pub filed_wide : (list : List Writing) (narrow : List Hit) (wide : List ℕ) (w : Writing) → IsFiled list narrow wide → IsFiled (list ++ w ∷ []) narrow (wide ++ length list ∷ [])
filed_wide list narrow wide w filed = record {
  sound = more_sound list w narrow filed.sound;
  complete = λ j a fits h. elim (more_cases list w j a h) [
    | inl was ↦ elim (filed.complete j a fits was) [ inl there ↦ inl there | inr there ↦ inr (Contains-append_left wide (length list ∷ []) j there) ]
    | inr (e, now) ↦ inr (subst (Contains (wide ++ length list ∷ [])) (sym e) (Contains-push wide (length list)))
  ];
  rising = IsNonDecreasingBy-push (λ (j : ℕ). j) wide (length list) filed.rising (λ d some. omega (arith, filed.inside (length wide - 1) d (omega (arith, some))));
  each_once = λ p q less here. elim (cases_lt q (length wide)) [
    | inl before ↦ omega (arith, get_or_append_left wide (length list ∷ []) 0 q before, get_or_append_left wide (length list ∷ []) 0 p (omega (arith, less, before)), filed.each_once p q less before)
    | inr le ↦
        let end : q ≡ length wide = omega (arith, le, here, length-append wide (length list ∷ [])) in
        let low = filed.inside p 0 (omega (arith, less, end)) in
        omega (arith, low, get_or_append_left wide (length list ∷ []) 0 p (omega (arith, less, end)), get_or_push wide (length list) 0 q (sym end))
  ];
  inside = All-push (λ (j : ℕ). j < length (list ++ w ∷ [])) wide (length list) (more_inside list w wide filed.inside) (omega (arith, length-append list (w ∷ [])));
  few = omega (arith, filed.few, length-append list (w ∷ []), length-append wide (length list ∷ []));
  apart = λ k h lt. not_there (get_or narrow k h) (filed.sound k h lt) (filed.apart k h lt);
}
  where
    last : (i : ℕ) → Contains (length list ∷ []) i → i ≡ length list
    last i there = sym (All-contains (λ (j : ℕ). length list ≡ j) (length list ∷ []) i (All-push (λ (j : ℕ). length list ≡ j) [] (length list) (All-nil (λ (j : ℕ). length list ≡ j)) refl) there)

    not_there : (h : Hit) → hits_at list h.index h.address ≡ true → (Contains wide h.index → ⊥) → Contains (wide ++ length list ∷ []) h.index → ⊥
    not_there h hits before there = elim (Contains-append_cases wide (length list ∷ []) h.index there) [
      | inl old ↦ before old
      | inr new ↦ let e = last h.index new in let lt = inside_of list h.index h.address hits in omega (arith, e, lt)
    ]

-- another row at an index that is kept for a row of many
pub filed_replaced : (list : List Writing) (narrow : List Hit) (wide : List ℕ) (k : ℕ) (w : Writing) → Contains wide k → IsFiled list narrow wide → IsFiled (set list k w) narrow wide
filed_replaced list narrow wide k w there filed = record {
  sound = λ i h lt. kept_hit (get_or narrow i h) (filed.sound i h lt) (filed.apart i h lt);
  complete = λ j a fits h. elim (cases_eq j k) [
    | inl e ↦ inr (subst (Contains wide) (sym e) there)
    | inr ne ↦ filed.complete j a fits (sym (other j a ne) ∙ h)
  ];
  rising = filed.rising;
  each_once = filed.each_once;
  inside = subst (λ (n : ℕ). All (λ j. j < n) wide) (sym (length-set list k w)) filed.inside;
  few = rw (length-set list k w) filed.few;
  apart = filed.apart;
}
  where
    other : (j a : ℕ) → (j ≡ k → ⊥) → hits_at (set list k w) j a ≡ hits_at list j a
    other j a ne = ap (λ x. writing_hits x a) (set_elsewhere list k j w ne)

    kept_hit : (h : Hit) → hits_at list h.index h.address ≡ true → (Contains wide h.index → ⊥) → hits_at (set list k w) h.index h.address ≡ true
    kept_hit h hits apart = other h.index h.address (λ e. apart (subst (Contains wide) (sym e) there)) ∙ hits

-- nothing is kept of no row
pub filed_none : IsFiled [] [] []
filed_none = record {
  sound = All-nil (λ (h : Hit). hits_at [] h.index h.address ≡ true);
  complete = λ j a fits h. absurd (none (inside_of [] j a h));
  rising = λ i j d le lt. absurd (omega (arith, lt));
  each_once = λ p q less lt. absurd (omega (arith, lt));
  inside = All-nil (λ (j : ℕ). j < 0);
  few = omega arith;
  apart = All-nil (λ (h : Hit). Contains [] h.index → ⊥);
}
  where
    none : {j : ℕ} → j < 0 → ⊥
    none lt = omega (arith, lt)

take_next : (list : List Writing) (k : ℕ) (d : Writing) → k < length list → take (k + 1) list ≡ take k list ++ get_or list k d ∷ []
take_next list k d lt = let same : suc k ≡ k + 1 = omega arith in subst (λ (n : ℕ). take n list ≡ take k list ++ get_or list k d ∷ []) same (take-suc list k d lt)

-- the first rows of a list, and one more
pub filed_next : (list : List Writing) (k : ℕ) (d : Writing) (narrow new : List Hit) (wide newer : List ℕ) → k < length list → IsFiled (take k list) narrow wide → (IsKeptByAddress (get_or list k d).access k narrow new × (newer ≡ wide)) ⊎ ((new ≡ narrow) × (newer ≡ wide ++ k ∷ [])) → IsFiled (take (k + 1) list) new newer
filed_next list k d narrow new wide newer lt filed (inl (kept, same)) =
    let long : length (take k list) ≡ k = length-take-le k list (omega (arith, lt)) in
    subst (λ (xs : List Writing). IsFiled xs new newer) (sym (take_next list k d lt)) (subst (λ (js : List ℕ). IsFiled (take k list ++ get_or list k d ∷ []) new js) (sym same) (filed_narrow (take k list) narrow new wide (get_or list k d) filed (subst (λ (n : ℕ). IsKeptByAddress (get_or list k d).access n narrow new) (sym long) kept)))
filed_next list k d narrow new wide newer lt filed (inr (same, added)) =
    let long : length (take k list) ≡ k = length-take-le k list (omega (arith, lt)) in
    subst (λ (xs : List Writing). IsFiled xs new newer) (sym (take_next list k d lt)) (subst (λ (hs : List Hit). IsFiled (take k list ++ get_or list k d ∷ []) hs newer) (sym same) (subst (λ (js : List ℕ). IsFiled (take k list ++ get_or list k d ∷ []) narrow js) (sym added) (subst (λ (n : ℕ). IsFiled (take k list ++ get_or list k d ∷ []) narrow (wide ++ n ∷ [])) long (filed_wide (take k list) narrow wide (get_or list k d) filed))))

-- all rows of a list are the first ones
pub take_all : (k : ℕ) (list : List Writing) → length list ≤ k → take k list ≡ list
take_all zero [] le = refl
take_all (suc k) [] le = refl
take_all zero (x ∷ xs) le = absurd (omega (arith, le))
take_all (suc k) (x ∷ xs) le = ap (λ (ys : List Writing). x ∷ ys) (take_all k xs (omega (arith, le)))
