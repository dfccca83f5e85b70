-- The place after the last row that may write an address, by the numbers at which the rows stand.
use Rattle.std.proofs.Common.{◌≡◌, ℕ, ◌-◌, ◌<◌, ◌≤◌, inl, inr, true, false, List, length, get_or, Option, Some, None, refl, ◌∙◌, ap, subst, arith}
use Rattle.std.specs.Prelude.{slice_get, nat_lt}
use Rattle.std.specs.List.Sorted.{IsPartitionPoint}
use Rattle.std.proofs.lemmas.Bool.Decides.{nat_tests}
use Rattle.std.proofs.lemmas.Bool.{cases_lt}
use Rattle.std.proofs.lemmas.List.{get_or_default}
use Rattle.std.proofs.lemmas.Option.{slice_get_within, slice_get-get_or}
use Rattle.rept_alias.specs.Accesses.{call_hits}
use Rattle.rept_writing.specs.declared.list.Writing.{Writing}
use Rattle.rept_writing.specs.Hits.{AreInOrder, hits_at, writing_hits, IsHitBefore, IsPastHitFrom, IsSplitAt}
use Rattle.rept_writing.specs.Filed.{IsPast}

-- the rows before index k are those at lower numbers
pub record IsCutAt (list : List Writing) (number k : ℕ) : Type 0 where
  pub bound : k ≤ length list
  pub below : (j : ℕ) (d : Writing) → j < k → (get_or list j d).at < number
  pub above : (j : ℕ) (d : Writing) → k ≤ j → j < length list → number ≤ (get_or list j d).at

pub cut_at : (list : List Writing) (number k : ℕ) → k ≤ length list → IsPartitionPoint (λ w. nat_lt w.at number ≡ true) (λ w. nat_lt w.at number ≡ false) list k → IsCutAt list number k
cut_at list number k bound parts = record {
  bound = bound;
  below = λ j d lt. let e = parts.0 j d (omega arith) lt in grind (arith, nat_tests, e);
  above = λ j d low high. let e = parts.1 j d low high in grind (arith, nat_tests, e);
}

stands : (w : Option Writing) (a : ℕ) → writing_hits w a ≡ true → (x : Writing) × (w ≡ Some x) × (call_hits x.access a ≡ true)
stands None a h = absurd (cc)
stands (Some x) a h = (x, refl, h)

read : (list : List Writing) (j : ℕ) (w : Writing) → slice_get list j ≡ Some w → get_or list j w ≡ w
read list j w is = let e = slice_get-get_or list j w (slice_get_within list j w is) in cc

pub split_at : (list : List Writing) (number k : ℕ) → IsCutAt list number k → IsSplitAt list number k
split_at list number k cut = record {
  bound = cut.bound;
  below = λ j w is lt. subst (λ (x : Writing). x.at < number) (read list j w is) (cut.below j w lt);
  above = λ j w is le. subst (λ (x : Writing). number ≤ x.at) (read list j w is) (cut.above j w le (slice_get_within list j w is));
}

-- the place of a number, by the two rows beside it
pub split_between : (list : List Writing) (number k : ℕ) (d : Writing) → k ≤ length list → (0 < k → (get_or list (k - 1) d).at < number) → (k < length list → number ≤ (get_or list k d).at) → AreInOrder list → IsSplitAt list number k
split_between list number k d bound low high up = split_at list number k (record {
  bound = bound;
  below = λ j e lt.
      let last : (get_or list (k - 1) e).at < number = subst (λ (x : Writing). x.at < number) (get_or_default list (k - 1) d e (omega (arith, lt, bound))) (low (omega (arith, lt))) in
      let far = up j (k - 1) e (omega (arith, lt)) (omega (arith, lt, bound)) in
      omega (arith, last, far);
  above = λ j e le inside.
      let first : number ≤ (get_or list k e).at = subst (λ (x : Writing). number ≤ x.at) (get_or_default list k d e (omega (arith, le, inside))) (high (omega (arith, le, inside))) in
      let far = up k j e le inside in
      omega (arith, first, far);
})

hit_before : (list : List Writing) (number k a j : ℕ) → IsSplitAt list number k → j < k → hits_at list j a ≡ true → IsHitBefore list number a j
hit_before list number k a j split lt h =
    let (w, is, hits) = stands (slice_get list j) a h in
    record { writing = w; stands = is; lower = split.below j w is lt; hits = hits }

before_split : (list : List Writing) (number k a j : ℕ) → IsSplitAt list number k → IsHitBefore list number a j → (j < k) × (hits_at list j a ≡ true)
before_split list number k a j split h = (
  elim (cases_lt j k) [ inl lt ↦ lt | inr le ↦ absurd (omega (arith, split.above j h.writing h.stands le, h.lower)) ],
  ap (λ w. writing_hits w a) h.stands ∙ h.hits,
)

pub past_row : (list : List Writing) (low number k a r : ℕ) → IsSplitAt list number k → IsPast (λ j. hits_at list j a ≡ true) low k r → IsPastHitFrom list low number a r
past_row list low number k a r split past = record {
  from = past.from;
  before = elim past.before [ inl e ↦ inl e | inr (j, e, lt, hits) ↦ inr (j, e, hit_before list number k a j split lt hits) ];
  none_after = λ j late h. let b = before_split list number k a j split h in past.none j late b.0 b.1;
}
