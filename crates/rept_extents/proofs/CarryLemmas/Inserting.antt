-- Numbers that rise: one more of them, and the first and the last past a place.
use Rattle.std.proofs.Common.{◌≡◌, ℕ, suc, ◌+◌, ◌-◌, ◌<◌, ◌≤◌, ◌⊎◌, Bool, true, List, [], ◌∷◌, ◌++◌, length, get_or, take, drop, Option, Some, None, slice_get, inl, inr, refl, sym, ap, ◌∙◌, subst, arith}
use Rattle.std.specs.List.{Contains, insert}
use Rattle.std.specs.List.Sorted.{IsNonDecreasing}
use Rattle.std.proofs.lemmas.Bool.{cases_lt, cases_order}
use Rattle.std.proofs.lemmas.List.{take-append-drop, get_or_default}
use Rattle.std.proofs.lemmas.List.Edits.{length-insert, get_or-insert_below, get_or-insert_at, get_or-insert_above}
use Rattle.std.proofs.lemmas.List.Elements.{Contains-get_or, Contains-append_left, Contains-append_right, Contains-append_cases, Contains-push, Contains-push_cases}
use Rattle.std.proofs.lemmas.Option.{slice_get_cases}
use Rattle.rept_report.specs.Timeline.{IsLeastFrom, IsGreatestTo}
use Rattle.rept_extents.specs.Carry.Rising.{IsSplit, AddsOne}

some_same : {A : Type 0} {x y : A} → Some x ≡ Some y → x ≡ y
some_same e = cc

some_none : {A : Type 0} {x : A} → Some x ≡ None → ⊥
some_none e = cc

none_some : {A : Type 0} {x : A} → None ≡ Some x → ⊥
none_some e = cc

-- an element as it is read with another default
read_as : (xs : List ℕ) (k v : ℕ) → k < length xs → get_or xs k v ≡ get_or xs k 0
read_as xs k v less = get_or_default xs k v 0 less

pub has_at : (xs : List ℕ) (k n : ℕ) → slice_get xs k ≡ Some n → Contains xs n
has_at xs k n e =
    elim ((slice_get_cases xs k).1) [
      | inl (x, less, is, read) ↦ let same : x ≡ n = some_same (sym is ∙ e) in subst (Contains xs) same (k, less, read)
      | inr (past, is) ↦ absurd (none_some (sym is ∙ e))
    ]

module _ (xs : List ℕ) (up : IsNonDecreasing xs) where
  rises : (i j : ℕ) → i ≤ j → j < length xs → get_or xs i 0 ≤ get_or xs j 0
  rises i j order less = up i j 0 order less

  module _ (n place : ℕ) (cut : IsSplit xs n place) where
    long : length (insert xs place n) ≡ length xs + 1
    long = length-insert xs place n cut.bound

    first : (i : ℕ) → i < place → get_or (insert xs place n) i 0 ≡ get_or xs i 0
    first i less = get_or-insert_below xs place n 0 i less cut.bound

    here : get_or (insert xs place n) place 0 ≡ n
    here = get_or-insert_at xs place n 0 cut.bound

    rest : (i : ℕ) → place < i → get_or (insert xs place n) i 0 ≡ get_or xs (i - 1) 0
    rest i past =
        let next : (i - 1) + 1 ≡ i = omega arith in
        ap (λ (k : ℕ). get_or (insert xs place n) k 0) (sym next) ∙ get_or-insert_above xs place n 0 (i - 1) (omega arith) cut.bound

    up_to : (i j : ℕ) → i ≤ j → j < length xs + 1 → get_or (insert xs place n) i 0 ≤ get_or (insert xs place n) j 0
    up_to i j order less =
        elim (cases_order i place) [
          | inl same ↦
              let i_is : get_or (insert xs place n) i 0 ≡ n = ap (λ (k : ℕ). get_or (insert xs place n) k 0) same ∙ here in
              elim (cases_order j place) [
                | inl also ↦ let j_is : get_or (insert xs place n) j 0 ≡ n = ap (λ (k : ℕ). get_or (insert xs place n) k 0) also ∙ here in omega arith
                | inr (inl below) ↦ absurd (omega arith)
                | inr (inr over) ↦ let j_is = rest j over in let low = cut.above (j - 1) (omega arith) (omega arith) in omega arith
              ]
          | inr (inl below) ↦
              let i_is = first i below in
              elim (cases_order j place) [
                | inl also ↦ let j_is : get_or (insert xs place n) j 0 ≡ n = ap (λ (k : ℕ). get_or (insert xs place n) k 0) also ∙ here in let low = cut.below i below in omega arith
                | inr (inl under) ↦ let j_is = first j under in let bound = cut.bound in let low = rises i j order (omega arith) in omega arith
                | inr (inr over) ↦ let j_is = rest j over in let low = rises i (j - 1) (omega arith) (omega arith) in omega arith
              ]
          | inr (inr over) ↦ let i_is = rest i over in let j_is = rest j (omega arith) in let low = rises (i - 1) (j - 1) (omega arith) (omega arith) in omega arith
        ]

    pub insert_rises : IsNonDecreasing (insert xs place n)
    insert_rises i j d order less =
        let count = long in
        let most = up_to i j order (omega arith) in
        let i_is = get_or_default (insert xs place n) i d 0 (omega arith) in
        let j_is = get_or_default (insert xs place n) j d 0 less in
        omega arith

  -- the first one past a place, and the last one before it
  module _ (least place : ℕ) (cut : IsSplit xs least place) where
    past_place : (v : ℕ) → least ≤ v → (h : Contains xs v) → place ≤ h.0
    past_place v low h =
        elim (cases_lt h.0 place) [
          | inl under ↦ let small = cut.below h.0 under in let read = sym (read_as xs h.0 v h.1) ∙ h.2 in absurd (omega arith)
          | inr over ↦ over
        ]

    pub least_here : (n : ℕ) → slice_get xs place ≡ Some n → IsLeastFrom (Contains xs) least (Some n)
    least_here n e =
        elim ((slice_get_cases xs place).1) [
          | inl (x, less, is, read) ↦
              let same : x ≡ n = some_same (sym is ∙ e) in
              let value : get_or xs place 0 ≡ n = sym (read_as xs place x less) ∙ read ∙ same in
              let low = cut.above place (omega arith) less in (
                has_at xs place n e,
                omega arith,
                λ v from below h.
                    let order = past_place v from h in
                    let most = rises place h.0 order h.1 in
                    let its = sym (read_as xs h.0 v h.1) ∙ h.2 in
                    omega arith,
              )
          | inr (past, is) ↦ absurd (none_some (sym is ∙ e))
        ]

    pub least_none : slice_get xs place ≡ None → IsLeastFrom (Contains xs) least None
    least_none e v low h =
        elim ((slice_get_cases xs place).1) [
          | inl (x, less, is, read) ↦ some_none (sym is ∙ e)
          | inr (past, is) ↦ let order = past_place v low h in let less = h.1 in omega arith
        ]

  module _ (most place : ℕ) (cut : IsSplit xs (most + 1) place) where
    before_place : (v : ℕ) → v ≤ most → (h : Contains xs v) → h.0 < place
    before_place v low h =
        elim (cases_lt h.0 place) [
          | inl under ↦ under
          | inr over ↦ let large = cut.above h.0 over h.1 in let read = sym (read_as xs h.0 v h.1) ∙ h.2 in absurd (omega arith)
        ]

    pub greatest_here : (n : ℕ) → 0 < place → n ≡ get_or xs (place - 1) 0 → IsGreatestTo (Contains xs) most (Some n)
    greatest_here n some read =
        let bound = cut.bound in
        let low = cut.below (place - 1) (omega arith) in (
          subst (Contains xs) (sym read) (Contains-get_or xs (place - 1) 0 (omega arith)),
          omega arith,
          λ v over to h.
              let order = before_place v to h in
              let up_to = rises h.0 (place - 1) (omega arith) (omega arith) in
              let its = sym (read_as xs h.0 v h.1) ∙ h.2 in
              omega arith,
        )

    pub greatest_none : place ≡ 0 → IsGreatestTo (Contains xs) most None
    greatest_none none v to h = let order = before_place v to h in omega arith

-- what is in a list with one more
pub inserted : (xs : List ℕ) (place n : ℕ) → AddsOne n xs (insert xs place n)
inserted xs place n v = (forth, back)
  where
    whole : take place xs ++ drop place xs ≡ xs
    whole = take-append-drop place xs

    forth : Contains (insert xs place n) v → Contains xs v ⊎ (v ≡ n)
    forth h =
        elim (Contains-append_cases (take place xs) (n ∷ drop place xs) v h) [
          | inl k ↦ inl (subst (λ (ys : List ℕ). Contains ys v) whole (Contains-append_left (take place xs) (drop place xs) v k))
          | inr k ↦
              elim (Contains-append_cases (n ∷ []) (drop place xs) v k) [
                | inl j ↦
                    elim (Contains-push_cases [] n v j) [
                      | inl i ↦ let less = i.1 in absurd (omega arith)
                      | inr same ↦ inr (sym same)
                    ]
                | inr j ↦ inl (subst (λ (ys : List ℕ). Contains ys v) whole (Contains-append_right (take place xs) (drop place xs) v j))
              ]
        ]

    back : Contains xs v ⊎ (v ≡ n) → Contains (insert xs place n) v
    back (inl h) =
        elim (Contains-append_cases (take place xs) (drop place xs) v (subst (λ (ys : List ℕ). Contains ys v) (sym whole) h)) [
          | inl k ↦ Contains-append_left (take place xs) (n ∷ drop place xs) v k
          | inr k ↦ Contains-append_right (take place xs) (n ∷ drop place xs) v (Contains-append_right (n ∷ []) (drop place xs) v k)
        ]
    back (inr same) = subst (Contains (insert xs place n)) (sym same) (Contains-append_right (take place xs) (n ∷ drop place xs) n (Contains-append_left (n ∷ []) (drop place xs) n (Contains-push [] n)))

pub there_already : (xs : List ℕ) (n : ℕ) → Contains xs n → AddsOne n xs xs
there_already xs n its v = (λ h. inl h, back)
  where
    back : Contains xs v ⊎ (v ≡ n) → Contains xs v
    back (inl h) = h
    back (inr same) = subst (Contains xs) (sym same) its
