-- How the rows of one kind are found, and that what is kept of them stays true where a row like the
-- old one takes its place.
use Rattle.std.proofs.Common.{◌≡◌, ℕ, ◌+◌, ◌-◌, ◌<◌, ◌≤◌, ◌⊎◌, List, [], ◌∷◌, ◌++◌, length, get_or, inl, inr, refl, sym, ◌∙◌, ap, subst, arith}
use Rattle.std.specs.Prelude.{max, set, slice_get, Some}
use Rattle.std.specs.List.{All, Contains}
use Rattle.std.specs.List.Sorted.{IsNonDecreasing}
use Rattle.std.proofs.lemmas.Bool.{cases_lt, cases_eq}
use Rattle.std.proofs.lemmas.List.{get_or_default, get_or_push, get_or_append_left, length-set, length_push}
use Rattle.std.proofs.lemmas.List.Elements.{All-nil, All-push, All-weaker, Contains-append_left, Contains-push}
use Rattle.std.proofs.lemmas.List.Sorted.{IsNonDecreasingBy-push, IsNonDecreasingBy-short}
use Rattle.std.proofs.lemmas.Option.{slice_get-get_or, slice_get_within}
use Rattle.rept_writing.specs.declared.columns.Columns.{Columns}
use Rattle.rept_writing.specs.declared.list.Writing.{Writing}
use Rattle.rept_writing.specs.Acting.{AreColumns, AreLeastOnward, AreTaken, MayActAs}
use Rattle.rept_writing.proofs.Keeping.{set_elsewhere, set_there}

-- from a place on each number is the least one onward, and before it each is as it was
pub record IsSettledFrom (old new : List ℕ) (p least : ℕ) : Type 0 where
  pub as_many : length new ≡ length old
  pub rest : (q : ℕ) → q < p → get_or new q 0 ≡ get_or old q 0
  pub rising : (q r : ℕ) → p ≤ q → q ≤ r → r < length old → get_or new q 0 ≤ get_or new r 0
  pub below : (q r : ℕ) → p ≤ q → q ≤ r → r < length old → get_or new q 0 ≤ get_or old r 0
  pub least_old : (r : ℕ) → p ≤ r → r < length old → least ≤ get_or old r 0
  pub least_new : (r : ℕ) → p ≤ r → r < length old → least ≤ get_or new r 0

pub settled_all : (old new : List ℕ) (p least : ℕ) → p ≤ 0 → IsSettledFrom old new p least → AreLeastOnward old new
settled_all old new p least begin s = record {
  as_many = s.as_many;
  rising = λ q r d le lt. omega (arith, get_or_default new q d 0 (omega (arith, le, lt)), get_or_default new r d 0 lt, s.rising q r (omega (arith, begin)) le (omega (arith, lt, s.as_many)));
  least = λ q r le lt. s.below q r (omega (arith, begin)) le lt;
}

read_push : (xs : List ℕ) (y q : ℕ) → q < length xs + 1 → ((q < length xs) × (get_or (xs ++ y ∷ []) q 0 ≡ get_or xs q 0)) ⊎ ((q ≡ length xs) × (get_or (xs ++ y ∷ []) q 0 ≡ y))
read_push xs y q lt = elim (cases_lt q (length xs)) [
  | inl less ↦ inl (less, get_or_append_left xs (y ∷ []) 0 q less)
  | inr le ↦ let same : q ≡ length xs = omega (arith, lt, le) in inr (same, get_or_push xs y 0 q (sym same))
]

pub taken_none : (list : List Writing) (c : Columns) → c.places.items ≡ [] → c.firsts.items ≡ [] → c.lasts.items ≡ [] → AreTaken list 0 c
taken_none list c places firsts lasts = record {
  rising = subst IsNonDecreasing (sym places) (IsNonDecreasingBy-short (λ (n : ℕ). n) [] (omega arith));
  apart = λ p q less lt. absurd (omega (arith, lt, none));
  inside = subst (All (λ (j : ℕ). j < 0)) (sym places) (All-nil (λ (j : ℕ). j < 0));
  few = omega (arith, none);
  complete = λ j w lt is kind. absurd (omega (arith, lt));
  as_many_firsts = ap length firsts ∙ sym none;
  as_many_lasts = ap length lasts ∙ sym none;
  lasts_rise = subst IsNonDecreasing (sym lasts) (IsNonDecreasingBy-short (λ (n : ℕ). n) [] (omega arith));
  first = λ q w lt is. absurd (omega (arith, lt, none));
  no_later = λ p q w le lt is. absurd (omega (arith, lt, none));
}
  where
    none : length c.places.items ≡ 0
    none = ap length places

-- the row at an index
row_is : (list : List Writing) (k : ℕ) (d w : Writing) → k < length list → slice_get list k ≡ Some w → get_or list k d ≡ w
row_is list k d w lt is = let e = slice_get-get_or list k d lt in cc

pub taken_skip : (list : List Writing) (k : ℕ) (d : Writing) (c : Columns) → k < length list → ((get_or list k d).is_call ≡ c.is_call → ⊥) → AreTaken list k c → AreTaken list (k + 1) c
taken_skip list k d c inside other t = record {
  rising = t.rising;
  apart = t.apart;
  inside = All-weaker (λ (j : ℕ). j < k) (λ (j : ℕ). j < k + 1) (λ j lt. omega (arith, lt)) c.places.items t.inside;
  few = omega (arith, t.few);
  complete = λ j w lt is kind. elim (cases_lt j k) [
    | inl less ↦ t.complete j w less is kind
    | inr le ↦ let same : j ≡ k = omega (arith, lt, le) in absurd (other (ap (λ (x : Writing). x.is_call) (row_is list k d w inside (subst (λ (n : ℕ). slice_get list n ≡ Some w) same is)) ∙ kind))
  ];
  as_many_firsts = t.as_many_firsts;
  as_many_lasts = t.as_many_lasts;
  lasts_rise = t.lasts_rise;
  first = t.first;
  no_later = t.no_later;
}

pub taken_push : (list : List Writing) (k : ℕ) (d : Writing) (c new : Columns) → k < length list → AreTaken list k c → new.is_call ≡ c.is_call → new.places.items ≡ c.places.items ++ k ∷ [] → new.firsts.items ≡ c.firsts.items ++ (get_or list k d).from ∷ [] → new.lasts.items ≡ c.lasts.items ++ max (get_or list k d).to (get_or c.lasts.items (length c.lasts.items - 1) 0) ∷ [] → AreTaken list (k + 1) new
taken_push list k d c new inside t kind places firsts lasts = record {
  rising = subst IsNonDecreasing (sym places) (IsNonDecreasingBy-push (λ (n : ℕ). n) c.places.items k t.rising (λ x some. let lt = t.inside (length c.places.items - 1) x (omega (arith, some)) in omega (arith, lt)));
  apart = λ p q less lt. elim (at_place q (omega (arith, lt, more))) [
    | inl (before, e) ↦ elim (at_place p (omega (arith, less, before))) [
      | inl (_, there) ↦ omega (arith, e, there, t.apart p q less before)
      | inr (end, _) ↦ absurd (omega (arith, end, less, before))
    ]
    | inr (end, e) ↦ elim (at_place p (omega (arith, less, end))) [
      | inl (before, there) ↦ let low = t.inside p 0 before in omega (arith, e, there, low)
      | inr (same, _) ↦ absurd (omega (arith, same, less, end))
    ]
  ];
  inside = subst (All (λ (j : ℕ). j < k + 1)) (sym places) (All-push (λ (j : ℕ). j < k + 1) c.places.items k (All-weaker (λ (j : ℕ). j < k) (λ (j : ℕ). j < k + 1) (λ j lt. omega (arith, lt)) c.places.items t.inside) (omega arith));
  few = omega (arith, more, t.few);
  complete = λ j w lt is of_kind. subst (λ (xs : List ℕ). Contains xs j) (sym places) (elim (cases_lt j k) [
    | inl less ↦ Contains-append_left c.places.items (k ∷ []) j (t.complete j w less is (of_kind ∙ kind))
    | inr le ↦ let same : k ≡ j = omega (arith, lt, le) in subst (Contains (c.places.items ++ k ∷ [])) same (Contains-push c.places.items k)
  ]);
  as_many_firsts = omega (arith, more, ap length firsts, length_push c.firsts.items (get_or list k d).from, t.as_many_firsts);
  as_many_lasts = omega (arith, more, ap length lasts, length_push c.lasts.items top, t.as_many_lasts);
  lasts_rise = subst IsNonDecreasing (sym lasts) (IsNonDecreasingBy-push (λ (n : ℕ). n) c.lasts.items top t.lasts_rise (λ x some. omega (arith, get_or_default c.lasts.items (length c.lasts.items - 1) x 0 (omega (arith, some)))));
  first = λ q w lt is. elim (at_place q (omega (arith, lt, more))) [
    | inl (less, e) ↦ elim (read_push c.firsts.items (get_or list k d).from q (omega (arith, less, t.as_many_firsts))) [
      | inl (_, was) ↦ omega (arith, ap (λ (xs : List ℕ). get_or xs q 0) firsts, was, t.first q w less (subst (λ (n : ℕ). slice_get list n ≡ Some w) e is))
      | inr (far, _) ↦ absurd (omega (arith, far, less, t.as_many_firsts))
    ]
    | inr (end, e) ↦ omega (arith, ap (λ (xs : List ℕ). get_or xs q 0) firsts, get_or_push c.firsts.items (get_or list k d).from 0 q (omega (arith, end, t.as_many_firsts)), ap (λ (x : Writing). x.from) (row_is list k d w inside (subst (λ (n : ℕ). slice_get list n ≡ Some w) e is)))
  ];
  no_later = λ p q w le lt is. elim (at_place q (omega (arith, lt, more))) [
    | inl (less, _) ↦ elim (at_place p (omega (arith, le, lt, more))) [
      | inl (_, e) ↦ omega (arith, ap (λ (xs : List ℕ). get_or xs q 0) lasts, get_or_append_left c.lasts.items (top ∷ []) 0 q (omega (arith, less, t.as_many_lasts)), t.no_later p q w le less (subst (λ (n : ℕ). slice_get list n ≡ Some w) e is))
      | inr (end, _) ↦ absurd (omega (arith, end, less, le))
    ]
    | inr (end, _) ↦ let last : get_or new.lasts.items q 0 ≡ top = ap (λ (xs : List ℕ). get_or xs q 0) lasts ∙ get_or_push c.lasts.items top 0 q (omega (arith, end, t.as_many_lasts)) in elim (at_place p (omega (arith, le, lt, more))) [
      | inl (before, e) ↦ let old = t.no_later p (length c.lasts.items - 1) w (omega (arith, before, t.as_many_lasts)) (omega (arith, before, t.as_many_lasts)) (subst (λ (n : ℕ). slice_get list n ≡ Some w) e is) in omega (arith, last, old)
      | inr (_, e) ↦ omega (arith, last, ap (λ (x : Writing). x.to) (row_is list k d w inside (subst (λ (n : ℕ). slice_get list n ≡ Some w) e is)))
    ]
  ];
}
  where
    top : ℕ
    top = max (get_or list k d).to (get_or c.lasts.items (length c.lasts.items - 1) 0)

    more : length new.places.items ≡ length c.places.items + 1
    more = ap length places ∙ length_push c.places.items k

    at_place : (q : ℕ) → q < length c.places.items + 1 → ((q < length c.places.items) × (get_or new.places.items q 0 ≡ get_or c.places.items q 0)) ⊎ ((q ≡ length c.places.items) × (get_or new.places.items q 0 ≡ k))
    at_place q lt = subst (λ (xs : List ℕ). ((q < length c.places.items) × (get_or xs q 0 ≡ get_or c.places.items q 0)) ⊎ ((q ≡ length c.places.items) × (get_or xs q 0 ≡ k))) (sym places) (read_push c.places.items k q lt)

-- all rows were looked at, and the numbers put in order
pub columns_taken : (list : List Writing) (c new : Columns) → AreTaken list (length list) c → new.is_call ≡ c.is_call → new.places.items ≡ c.places.items → new.lasts.items ≡ c.lasts.items → AreLeastOnward c.firsts.items new.firsts.items → AreColumns list new
columns_taken list c new t kind places lasts least = record {
  rising = subst IsNonDecreasing (sym places) t.rising;
  apart = λ p q less lt. subst (λ (xs : List ℕ). get_or xs p 0 < get_or xs q 0) (sym places) (t.apart p q less (omega (arith, lt, ap length places)));
  inside = subst (All (λ (j : ℕ). j < length list)) (sym places) t.inside;
  complete = λ j w is of_kind. subst (λ (xs : List ℕ). Contains xs j) (sym places) (t.complete j w (slice_get_within list j w is) is (of_kind ∙ kind));
  as_many_firsts = least.as_many ∙ (t.as_many_firsts ∙ sym (ap length places));
  as_many_lasts = ap length lasts ∙ (t.as_many_lasts ∙ sym (ap length places));
  firsts_rise = least.rising;
  lasts_rise = subst IsNonDecreasing (sym lasts) t.lasts_rise;
  no_sooner = λ p q w le lt is. omega (arith, least.least p q le (omega (arith, lt, ap length places, t.as_many_firsts)), t.first q w (omega (arith, lt, ap length places)) (subst (λ (xs : List ℕ). slice_get list (get_or xs q 0) ≡ Some w) places is));
  no_later = λ p q w le lt is. omega (arith, ap (λ (xs : List ℕ). get_or xs q 0) lasts, t.no_later p q w le (omega (arith, lt, ap length places)) (subst (λ (xs : List ℕ). slice_get list (get_or xs p 0) ≡ Some w) places is));
}

-- what may stand at an index now might act as it does before
was_there : (list : List Writing) (k : ℕ) (d w : Writing) (j : ℕ) (x : Writing) → k < length list → MayActAs (get_or list k d) w → slice_get (set list k w) j ≡ Some x → (y : Writing) × (slice_get list j ≡ Some y) × MayActAs y x
was_there list k d w j x lt alike is = elim (cases_eq j k) [
  | inl same ↦
      let now : Some w ≡ Some x = sym (set_there list k w lt) ∙ subst (λ (n : ℕ). slice_get (set list k w) n ≡ Some x) same is in
      let e : w ≡ x = cc in
      (get_or list k d, subst (λ (n : ℕ). slice_get list n ≡ Some (get_or list k d)) (sym same) (slice_get-get_or list k d lt), subst (MayActAs (get_or list k d)) e alike)
  | inr ne ↦ (x, sym (set_elsewhere list k j w ne) ∙ is, record { from = refl; to = refl; kind = refl })
]

pub columns_replaced : (list : List Writing) (k : ℕ) (d w : Writing) (c : Columns) → k < length list → MayActAs (get_or list k d) w → AreColumns list c → AreColumns (set list k w) c
columns_replaced list k d w c lt alike a = record {
  rising = a.rising;
  apart = a.apart;
  inside = subst (λ (n : ℕ). All (λ (j : ℕ). j < n) c.places.items) (sym (length-set list k w)) a.inside;
  complete = λ j x is kind. let (y, was, may_act) = was_there list k d w j x lt alike is in a.complete j y was (sym may_act.kind ∙ kind);
  as_many_firsts = a.as_many_firsts;
  as_many_lasts = a.as_many_lasts;
  firsts_rise = a.firsts_rise;
  lasts_rise = a.lasts_rise;
  no_sooner = λ p q x le less is. let (y, was, may_act) = was_there list k d w (get_or c.places.items q 0) x lt alike is in omega (arith, a.no_sooner p q y le less was, may_act.from);
  no_later = λ p q x le less is. let (y, was, may_act) = was_there list k d w (get_or c.places.items p 0) x lt alike is in omega (arith, a.no_later p q y le less was, may_act.to);
}
