-- What a search has reached grows by one link, until it has a value or grows no more.
use Rattle.std.proofs.Common.{◌≡◌, ℕ, zero, suc, ◌+◌, ◌-◌, ◌<◌, ◌≤◌, ◌⊎◌, true, false, List, [], ◌∷◌, length, Option, Some, None, is_some, inl, inr, refl, sym, ap, subst, ◌∙◌, arith, get_or, slice_get}
use Rattle.std.proofs.lemmas.Bool.{cases_lt, cases_eq, false≢true}
use Rattle.std.proofs.lemmas.Option.{slice_get-get_or, slice_get_within}
use Rattle.rept_report.specs.declared.nearest.found.NearestValue.{NearestValue}
use Rattle.rept_report.specs.Nearest.Nets.{Links, IsNextLinked, IsWithinLinks, IsNearest}
use Rattle.rept_report.specs.Nearest.Nets.IsWithinLinks.{here, onward}
use Rattle.rept_report.specs.Nearest.Reached.{Reached, IsAmong, HasValue, AddsNumber, ReachesMore, GrowsFrom, IsBeside, GrowsBeside, IsBall}
use Rattle.rept_report.proofs.NearestLemmas.Reaching.{same_number, grows_itself, grows_then, grows_among, added_grows, added_there, added_only}

module _ (L : Links) (from : ℕ) where
  -- more links lead no less far
  within_next : (k m : ℕ) → IsWithinLinks L from k m → IsWithinLinks L from (suc k) m
  within_next _ _ (here k) = here (suc k)
  within_next _ _ (onward k m w h link) = onward (suc k) m w (within_next k m h) link

  within_by : (n k m : ℕ) → IsWithinLinks L from k m → IsWithinLinks L from (n + k) m
  within_by zero k m h = let same : k ≡ zero + k = omega arith in subst (λ (j : ℕ). IsWithinLinks L from j m) same h
  within_by (suc n) k m h = let same : suc (n + k) ≡ suc n + k = omega arith in subst (λ (j : ℕ). IsWithinLinks L from j m) same (within_next (n + k) m (within_by n k m h))

  within_up : (k j m : ℕ) → k ≤ j → IsWithinLinks L from k m → IsWithinLinks L from j m
  within_up k j m le h = let same : j - k + k ≡ j = omega arith in subst (λ (i : ℕ). IsWithinLinks L from i m) same (within_by (j - k) k m h)

  -- at first it has one number
  only_here : (k m : ℕ) → IsWithinLinks L from k m → k ≡ 0 → m ≡ from
  only_here _ _ (here k) e = refl
  only_here _ _ (onward k m w h link) e = absurd (omega (arith, e))

  one_at : (k m : ℕ) → slice_get (from ∷ []) k ≡ Some m → m ≡ from
  one_at zero m at = sym (same_number at)
  one_at (suc k) m at = let lt = slice_get_within (from ∷ []) (suc k) m at in absurd (omega (arith, lt))

  pub first_ball : from ≤ L.last → IsBall L from (from ∷ []) 0 0
  first_ball early = record {
    within = λ k m at. rw (one_at k m at) (here 0);
    whole = λ m h. (0, ap Some (sym (only_here 0 m h refl)));
    closed = λ k m w lt at link. absurd (omega (arith, lt));
    empty = λ k m lt at. absurd (omega (arith, lt));
    inside = λ k m at. rw (one_at k m at) early;
    few = omega arith;
    earlier = λ k m lt h. absurd (omega (arith, lt));
  }

  module _ (list : List ℕ) (start links : ℕ) (ball : IsBall L from list start links) where
    -- one that has a value is the nearest
    pub ball_found : (found : NearestValue) → HasValue L list start links (Some found) → IsNearest L from (Some found)
    ball_found found (among, value, is) = (value, rw is (ball.within among.0 found.number among.1), rw is ball.earlier)

    -- where nothing was added, that is all
    all_reached : length list ≤ start → (k m : ℕ) → IsWithinLinks L from k m → IsAmong list m
    all_reached done _ _ (here k) = ball.whole from (here links)
    all_reached done _ _ (onward k m w h link) =
        let there = all_reached done k m h in
        let lt = slice_get_within list there.0 m there.1 in
        ball.closed there.0 m w (omega (arith, lt, done)) there.1 link

    pub ball_done : length list ≤ start → IsNearest L from None
    ball_done done k m h =
        let there = all_reached done k m h in
        let lt = slice_get_within list there.0 m there.1 in
        ball.empty there.0 m (omega (arith, lt, done)) there.1

    -- no number of it has a value
    none_has : HasValue L list start links None → (k m : ℕ) → slice_get list k ≡ Some m → L.value m ≡ None
    none_has none k m at = elim (cases_lt k start) [ inl lt ↦ ball.empty k m lt at | inr ge ↦ none k m ge at ]

    module _ (bound : ℕ) (new : Reached) (linked_inside : (m w : ℕ) → L.linked m w ≡ true → w ≤ L.last) (none : HasValue L list start links None) (more : start < length list) (grown : GrowsBeside L (record { bound = bound; list = list }) new start) where
      kept_among : (m : ℕ) → IsAmong list m → IsAmong new.list m
      kept_among m h = grows_among (record { bound = bound; list = list }) new grown.grows m h

      linked_from : (k m w : ℕ) → slice_get list k ≡ Some m → L.linked m w ≡ true → IsAmong new.list w
      linked_from k m w at link = elim (cases_lt k start) [ inl lt ↦ kept_among w (ball.closed k m w lt at link) | inr ge ↦ grown.all k m w ge at link ]

      whole_next : (n m : ℕ) → IsWithinLinks L from n m → n ≡ links + 1 → IsAmong new.list m
      whole_next _ _ (here k) e = kept_among from (ball.whole from (here links))
      whole_next _ _ (onward k m w h link) e =
          let same : k ≡ links = omega (arith, e) in
          let there = ball.whole m (subst (λ (j : ℕ). IsWithinLinks L from j m) same h) in
          linked_from there.0 m w there.1 link

      -- the numbers of the former list stand at their places
      before : (k m : ℕ) → k < length list → slice_get new.list k ≡ Some m → slice_get list k ≡ Some m
      before k m lt at =
          let was = slice_get-get_or list k 0 lt in
          was ∙ sym (grown.grows.kept k (get_or list k 0) was) ∙ at

      next : suc links ≡ links + 1
      next = omega arith

      within_new : (m : ℕ) → IsAmong list m ⊎ IsBeside L list m → IsWithinLinks L from (links + 1) m
      within_new m (inl h) = subst (λ (j : ℕ). IsWithinLinks L from j m) next (within_next links m (ball.within h.0 m h.1))
      within_new m (inr h) = subst (λ (j : ℕ). IsWithinLinks L from j m) next (onward links h.number m (ball.within h.index h.number h.there) h.link)

      inside_new : (m : ℕ) → IsAmong list m ⊎ IsBeside L list m → m ≤ L.last
      inside_new m (inl h) = ball.inside h.0 m h.1
      inside_new m (inr h) = linked_inside h.number m h.link

      pub next_ball : IsBall L from new.list (length list) (links + 1)
      next_ball = record {
        within = λ k m at. within_new m (grown.only m (k, at));
        whole = λ m h. whole_next (links + 1) m h refl;
        closed = λ k m w lt at link. linked_from k m w (before k m lt at) link;
        empty = λ k m lt at. none_has none k m (before k m lt at);
        inside = λ k m at. inside_new m (grown.only m (k, at));
        few = let few = ball.few in omega (arith, few, more);
        earlier = λ k m lt h. let there = ball.whole m (within_up k links m (omega (arith, lt)) h) in none_has none there.0 m there.1;
      }

-- the numbers below one to which a number is linked were added
pub record GrowsBelow (L : Links) (old new : Reached) (m least : ℕ) : Type 0 where
  pub grows : ReachesMore old new
  pub all : (w : ℕ) → w < least → L.linked m w ≡ true → IsAmong new.list w
  pub only : (w : ℕ) → IsAmong new.list w → IsAmong old.list w ⊎ (L.linked m w ≡ true)

-- those of the numbers from one index to before another one were
pub record GrowsUpTo (L : Links) (old new : Reached) (start k : ℕ) : Type 0 where
  pub grows : ReachesMore old new
  pub all : (j m w : ℕ) → start ≤ j → j < k → slice_get old.list j ≡ Some m → L.linked m w ≡ true → IsAmong new.list w
  pub only : (w : ℕ) → IsAmong new.list w → IsAmong old.list w ⊎ IsBeside L old.list w

pub up_to_more : (L : Links) (old a b : Reached) (start k m : ℕ) → slice_get old.list k ≡ Some m → GrowsUpTo L old a start k → GrowsFrom L a b m → GrowsUpTo L old b start (k + 1)
up_to_more L old a b start k m at h g = record {
  grows = grows_then old a b h.grows g.grows;
  all = λ j n w low lt there link. elim (cases_eq j k) [
    | inl is ↦ let same : n ≡ m = same_number (sym there ∙ rw is at) in g.all w (rw same at link)
    | inr ne ↦ grows_among a b g.grows w (h.all j n w low (omega (arith, lt, ne)) there link)
  ];
  only = λ w among. elim (g.only w among) [
    | inl old_ ↦ h.only w old_
    | inr link ↦ inr (record { index = k; number = m; there = at; link = link })
  ];
}

pub below_first : (L : Links) (a : Reached) (m : ℕ) → GrowsBelow L a a m 0
below_first L a m = record { grows = grows_itself a; all = λ w lt link. absurd (omega (arith, lt)); only = λ w among. inl among }

-- the next one was added
pub below_more : (L : Links) (old a b : Reached) (m least w : ℕ) → IsNextLinked L m least (Some w) → AddsNumber a b w → GrowsBelow L old a m least → GrowsBelow L old b m (w + 1)
below_more L old a b m least w (link, low, first) adds h = record {
  grows = grows_then old a b h.grows (added_grows a b w adds);
  all = λ v lt linked. elim (cases_lt v least) [
    | inl less ↦ grows_among a b (added_grows a b w adds) v (h.all v less linked)
    | inr more ↦ elim (cases_eq v w) [
      | inl is ↦ rw is (added_there a b w adds)
      | inr ne ↦ absurd (false≢true (sym (first v more (omega (arith, lt, ne))) ∙ linked))
    ]
  ];
  only = λ v among. elim (added_only a b w v adds among) [ inl was ↦ h.only v was | inr is ↦ inr (rw is link) ];
}

-- there is no other one
pub below_none : (L : Links) (old new : Reached) (m least : ℕ) → IsNextLinked L m least None → GrowsBelow L old new m least → GrowsFrom L old new m
below_none L old new m least none h = record {
  grows = h.grows;
  all = λ w link. elim (cases_lt w least) [ inl less ↦ h.all w less link | inr more ↦ absurd (false≢true (sym (none w more) ∙ link)) ];
  only = h.only;
}

pub below_all : (L : Links) → ((m w : ℕ) → L.linked m w ≡ true → w ≤ L.last) → (old new : Reached) (m least : ℕ) → L.last < least → GrowsBelow L old new m least → GrowsFrom L old new m
below_all L inside old new m least past h = record { grows = h.grows; all = λ w link. let early = inside m w link in h.all w (omega (arith, past, early)) link; only = h.only }

pub up_to_first : (L : Links) (a : Reached) (start : ℕ) → GrowsUpTo L a a start start
up_to_first L a start = record { grows = grows_itself a; all = λ j m w low lt at link. absurd (omega (arith, low, lt)); only = λ w among. inl among }

pub up_to_all : (L : Links) (old new : Reached) (start k : ℕ) → length old.list ≤ k → GrowsUpTo L old new start k → GrowsBeside L old new start
up_to_all L old new start k done h = record { grows = h.grows; all = λ j m w low at link. let lt = slice_get_within old.list j m at in h.all j m w low (omega (arith, lt, done)) at link; only = h.only }

-- the first number alone
pub added_ball : (L : Links) (from : ℕ) (a b : Reached) → from ≤ L.last → a.list ≡ [] → AddsNumber a b from → IsBall L from b.list 0 0
added_ball L from a b early none (inl (there, same)) = let lt = slice_get_within a.list there.0 from there.1 in let short : length a.list ≡ 0 = ap length none in absurd (omega (arith, lt, short))
added_ball L from a b early none (inr same) = rw (same, none) (first_ball L from early)

-- a search that found nothing
pub has_none : (L : Links) (list : List ℕ) (start links : ℕ) (x : Option NearestValue) → is_some x ≡ false → HasValue L list start links x → HasValue L list start links None
has_none L list start links None e h = h
has_none L list start links (Some found) e h = cc
