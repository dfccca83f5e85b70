-- Addresses with an index, in order, and what a search among them finds.
use Rattle.std.proofs.Common.{◌≡◌, ℕ, ◌+◌, ◌-◌, ◌<◌, ◌≤◌, ◌⊎◌, true, false, List, length, get_or, Some, None, inl, inr, sym, ◌∙◌, ap, subst, arith}
use Rattle.std.specs.List.{Contains}
use Rattle.std.specs.List.Sorted.{IsSorted, IsNonDecreasingBy}
use Rattle.std.specs.Ordering.{is_lt, ordering_index}
use Rattle.std.specs.Cmp.{IsTotalOrder}
use Rattle.std.specs.declared.cmp.Ordering.TheVariants.{Less, Greater}
use Rattle.std.proofs.lemmas.Cmp.{then_total, on_total, nat_cmp_total}
use Rattle.std.proofs.lemmas.Bool.Decides.{nat_tests}
use Rattle.std.proofs.lemmas.List.{get_or_default}
use Rattle.std.proofs.lemmas.List.Sorted.{sorted_far, searchable_from_sorted, ranks_by}
use Rattle.rept_writing.specs.declared.narrow.Hit.{Hit}
use Rattle.rept_writing.specs.Filed.{IsLeast, IsPast, IsPlaceOf, hit, hit_cmp}
use Rattle.rept_writing.proofs.Going.{past_after, past_none}

pub hits_total : IsTotalOrder hit_cmp
hits_total = then_total (on_total (λ (x : Hit). x.address) nat_cmp_total) (on_total (λ (x : Hit). x.index) nat_cmp_total)

less_at : (a j k : ℕ) → hit_cmp (hit a j) (hit a k) ≡ Less → j < k
less_at a j k h = grind (arith, nat_tests, h)

greater_at : (x : Hit) (a k : ℕ) → hit_cmp x (hit a k) ≡ Greater → (a < x.address) ⊎ ((x.address ≡ a) × (k < x.index))
greater_at x a k h = grind (arith, nat_tests, h)

lower : (x : Hit) (a j : ℕ) → a < x.address → is_lt (hit_cmp (hit a j) x) ≡ true
lower x a j h = grind (arith, nat_tests, h)

sooner_at : (x : Hit) (a j : ℕ) → x.address ≡ a → j < x.index → is_lt (hit_cmp (hit a j) x) ≡ true
sooner_at x a j e h = grind (arith, nat_tests, e, h)

true≢false : true ≡ false → ⊥
true≢false e = cc

-- what the search says of a place, where they are in order
pub placed : (hits : List Hit) (x : Hit) (at : ℕ) → IsSorted hit_cmp hits → (IsNonDecreasingBy (λ y. ordering_index (hit_cmp y x)) hits → IsPlaceOf hits x at) → IsPlaceOf hits x at
placed hits x at up says = says (searchable_from_sorted hits_total (λ (y : Hit). y) hits x up)

-- what doesn't come after one that is less is less
less_up_to : (x y z : Hit) → is_lt (hit_cmp y x) ≡ false → is_lt (hit_cmp y z) ≡ true → hit_cmp x z ≡ Less
less_up_to x y z a b = grind (arith, nat_tests, a, b)

-- what doesn't come before one that is greater is greater
greater_from : (x y z : Hit) → is_lt (hit_cmp y x) ≡ false → is_lt (hit_cmp z x) ≡ true → hit_cmp y z ≡ Greater
greater_from x y z a b = grind (arith, nat_tests, a, b)

-- the place of a hit, by the two beside it
pub between : (hits : List Hit) (x : Hit) (at : ℕ) (d : Hit) → IsSorted hit_cmp hits → at ≤ length hits → (0 < at → is_lt (hit_cmp (get_or hits (at - 1) d) x) ≡ true) → (at < length hits → is_lt (hit_cmp x (get_or hits at d)) ≡ true) → IsPlaceOf hits x at
between hits x at d up bound low high = (before, after)
  where
    far : (i j : ℕ) (e : Hit) → i ≤ j → j < length hits → is_lt (hit_cmp (get_or hits j e) (get_or hits i e)) ≡ false
    far = sorted_far (λ x y. is_lt (hit_cmp x y)) (ranks_by hits_total (λ (y : Hit). y)) hits up

    before : (k : ℕ) (e : Hit) → 0 ≤ k → k < at → hit_cmp (get_or hits k e) x ≡ Less
    before k e _ lt =
        let last : is_lt (hit_cmp (get_or hits (at - 1) e) x) ≡ true = subst (λ (y : Hit). is_lt (hit_cmp y x) ≡ true) (get_or_default hits (at - 1) d e (omega (arith, lt, bound))) (low (omega (arith, lt))) in
        less_up_to (get_or hits k e) (get_or hits (at - 1) e) x (far k (at - 1) e (omega (arith, lt)) (omega (arith, lt, bound))) last

    after : (k : ℕ) (e : Hit) → at ≤ k → k < length hits → hit_cmp (get_or hits k e) x ≡ Greater
    after k e le inside =
        let first : is_lt (hit_cmp x (get_or hits at e)) ≡ true = subst (λ (y : Hit). is_lt (hit_cmp x y) ≡ true) (get_or_default hits at d e (omega (arith, le, inside))) (high (omega (arith, le, inside))) in
        greater_from (get_or hits at e) (get_or hits k e) x (far at k e le inside) first

-- what stands at an address from an index on is at or after the place
pub later : (hits : List Hit) (a k at j : ℕ) → IsSorted hit_cmp hits → IsPlaceOf hits (hit a k) at → k ≤ j → Contains hits (hit a j) → (at < length hits) × (is_lt (hit_cmp (hit a j) (get_or hits at (hit a j))) ≡ false)
later hits a k at j up parts from (m, inside, is) = (omega (arith, after), subst (λ (x : Hit). is_lt (hit_cmp x (get_or hits at (hit a j))) ≡ false) is (sorted_far (λ x y. is_lt (hit_cmp x y)) (ranks_by hits_total (λ (y : Hit). y)) hits up at m (hit a j) after inside))
  where
    before : m < at → ⊥
    before lt = let small = less_at a j k (subst (λ (x : Hit). hit_cmp x (hit a k) ≡ Less) is (parts.0 m (hit a j) (omega arith) lt)) in omega arith

    after : at ≤ m
    after = omega (arith, before)

-- no one stands there, where the place is the end or has another address
pub none_there : (hits : List Hit) (a k at : ℕ) (d : Hit) → IsSorted hit_cmp hits → IsPlaceOf hits (hit a k) at → (at < length hits → (get_or hits at d).address ≡ a → ⊥) → IsLeast (λ j. Contains hits (hit a j)) k None
none_there hits a k at d up parts other j from there = case (greater_at x a k (parts.1 at (hit a j) (omega arith) inside))
  where
    l : (at < length hits) × (is_lt (hit_cmp (hit a j) (get_or hits at (hit a j))) ≡ false)
    l = later hits a k at j up parts from there

    inside : at < length hits
    inside = l.0

    x : Hit
    x = get_or hits at (hit a j)

    case : ((a < x.address) ⊎ ((x.address ≡ a) × (k < x.index))) → ⊥
    case (inl above) = true≢false (sym (lower x a j above) ∙ l.1)
    case (inr (same, _)) = other inside (ap (λ (y : Hit). y.address) (get_or_default hits at d (hit a j) inside) ∙ same)

-- the one at the place is the first one, where it has the address
pub first_there : (hits : List Hit) (a k at : ℕ) (d : Hit) → IsSorted hit_cmp hits → IsPlaceOf hits (hit a k) at → at < length hits → (get_or hits at d).address ≡ a → IsLeast (λ j. Contains hits (hit a j)) k (Some (get_or hits at d).index)
first_there hits a k at d up parts inside same = (from (greater_at x a k (parts.1 at d (omega arith) inside)), (at, inside, get_or_default hits at _ d inside ∙ whole), none)
  where
    x : Hit
    x = get_or hits at d

    from : ((a < x.address) ⊎ ((x.address ≡ a) × (k < x.index))) → k ≤ x.index
    from (inl above) = absurd (omega (arith, same, above))
    from (inr (_, lt)) = omega (arith, lt)

    whole : x ≡ hit a x.index
    whole = ap (λ n. hit n x.index) same

    none : (j : ℕ) → k ≤ j → j < x.index → Contains hits (hit a j) → ⊥
    none j low high there =
        let l = later hits a k at j up parts low there in
        let e : get_or hits at (hit a j) ≡ x = get_or_default hits at (hit a j) d inside in
        true≢false (sym (sooner_at x a j same high) ∙ subst (λ (y : Hit). is_lt (hit_cmp (hit a j) y) ≡ false) e l.1)

-- what stands at an address up to an index is before the place
earlier : (hits : List Hit) (a k at j : ℕ) → IsPlaceOf hits (hit a k) at → j ≤ k → Contains hits (hit a j) → (m : ℕ) × (m < at) × (m < length hits) × (get_or hits m (hit a j) ≡ hit a j)
earlier hits a k at j parts to (m, inside, is) = (m, omega (arith, before), inside, is)
  where
    before : at ≤ m → ⊥
    before le = elim (greater_at (hit a j) a k (subst (λ (x : Hit). hit_cmp x (hit a k) ≡ Greater) is (parts.1 m (hit a j) le inside))) [ inl above ↦ omega (arith, above) | inr (_, lt) ↦ omega (arith, lt, to) ]

-- it isn't after the one before the place
not_after : (hits : List Hit) (a k at j : ℕ) → IsSorted hit_cmp hits → IsPlaceOf hits (hit a k) at → at ≤ length hits → j ≤ k → Contains hits (hit a j) → (0 < at) × ((d : Hit) → is_lt (hit_cmp (get_or hits (at - 1) d) (hit a j)) ≡ false)
not_after hits a k at j up parts bound to there =
    let (m, lt, inside, is) = earlier hits a k at j parts to there in (
      omega (arith, lt),
      λ d. subst (λ (x : Hit). is_lt (hit_cmp x (hit a j)) ≡ false) (get_or_default hits (at - 1) (hit a j) d (omega (arith, lt, bound)))
          (subst (λ (x : Hit). is_lt (hit_cmp (get_or hits (at - 1) (hit a j)) x) ≡ false) is (sorted_far (λ x y. is_lt (hit_cmp x y)) (ranks_by hits_total (λ (y : Hit). y)) hits up m (at - 1) (hit a j) (omega (arith, lt)) (omega (arith, lt, bound)))),
    )

less_of : (x : Hit) (a k : ℕ) → hit_cmp x (hit a k) ≡ Less → (x.address < a) ⊎ ((x.address ≡ a) × (x.index < k))
less_of x a k h = grind (arith, nat_tests, h)

lower_than : (x : Hit) (a j : ℕ) → x.address < a → is_lt (hit_cmp x (hit a j)) ≡ true
lower_than x a j h = grind (arith, nat_tests, h)

sooner_than : (x : Hit) (a j : ℕ) → x.address ≡ a → x.index < j → is_lt (hit_cmp x (hit a j)) ≡ true
sooner_than x a j e h = grind (arith, nat_tests, e, h)

-- the one before the place has a lower address or is before the index
before_place : (hits : List Hit) (a k at : ℕ) (d : Hit) → IsPlaceOf hits (hit a k) at → 0 < at → ((get_or hits (at - 1) d).address < a) ⊎ (((get_or hits (at - 1) d).address ≡ a) × ((get_or hits (at - 1) d).index < k))
before_place hits a k at d parts some = less_of (get_or hits (at - 1) d) a k (parts.0 (at - 1) d (omega arith) (omega (arith, some)))

-- no one up to the index stands there, where the one before the place has another address
pub none_up_to : (hits : List Hit) (a k at : ℕ) (d : Hit) → IsSorted hit_cmp hits → IsPlaceOf hits (hit a k) at → at ≤ length hits → (0 < at → (get_or hits (at - 1) d).address ≡ a → ⊥) → (j : ℕ) → j ≤ k → Contains hits (hit a j) → ⊥
none_up_to hits a k at d up parts bound other j to there =
    let (some, not) = not_after hits a k at j up parts bound to there in
    elim (before_place hits a k at d parts some) [
      | inl low ↦ true≢false (sym (lower_than (get_or hits (at - 1) d) a j low) ∙ not d)
      | inr (same, _) ↦ other some same
    ]

-- the one before the place is the last one up to the index, where it has the address
pub last_up_to : (hits : List Hit) (a k at : ℕ) (d : Hit) → IsSorted hit_cmp hits → IsPlaceOf hits (hit a k) at → at ≤ length hits → 0 < at → (get_or hits (at - 1) d).address ≡ a → IsPast (λ j. Contains hits (hit a j)) 0 (k + 1) ((get_or hits (at - 1) d).index + 1)
last_up_to hits a k at d up parts bound some same = past_after (λ j. Contains hits (hit a j)) 0 (k + 1) x.index (omega arith) below (at - 1, omega (arith, some, bound), get_or_default hits (at - 1) _ d (omega (arith, some, bound)) ∙ ap (λ n. hit n x.index) same) none
  where
    x : Hit
    x = get_or hits (at - 1) d

    below : x.index < k + 1
    below = elim (before_place hits a k at d parts some) [ inl low ↦ absurd (omega (arith, low, same)) | inr (_, lt) ↦ omega (arith, lt) ]

    none : (j : ℕ) → x.index < j → j < k + 1 → Contains hits (hit a j) → ⊥
    none j low high there = true≢false (sym (sooner_than x a j same low) ∙ (not_after hits a k at j up parts bound (omega (arith, high)) there).1 d)

-- the same below an index
pub none_below : (hits : List Hit) (a k at : ℕ) (d : Hit) → 0 < k → IsSorted hit_cmp hits → IsPlaceOf hits (hit a (k - 1)) at → at ≤ length hits → (0 < at → (get_or hits (at - 1) d).address ≡ a → ⊥) → IsPast (λ j. Contains hits (hit a j)) 0 k 0
none_below hits a k at d some up parts bound other = past_none (λ j. Contains hits (hit a j)) 0 k (λ j low lt there. none_up_to hits a (k - 1) at d up parts bound other j (omega (arith, lt)) there)

pub last_below : (hits : List Hit) (a k at : ℕ) (d : Hit) → 0 < k → IsSorted hit_cmp hits → IsPlaceOf hits (hit a (k - 1)) at → at ≤ length hits → 0 < at → (get_or hits (at - 1) d).address ≡ a → IsPast (λ j. Contains hits (hit a j)) 0 k ((get_or hits (at - 1) d).index + 1)
last_below hits a k at d low up parts bound some same =
    let e : k - 1 + 1 ≡ k = omega arith in
    subst (λ (n : ℕ). IsPast (λ j. Contains hits (hit a j)) 0 n ((get_or hits (at - 1) d).index + 1)) e (last_up_to hits a (k - 1) at d up parts bound some same)
