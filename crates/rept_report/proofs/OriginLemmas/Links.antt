-- The way to the nearest number that has a value, by its first step.
use Rattle.std.proofs.Common.{◌≡◌, ℕ, zero, suc, ◌+◌, ◌<◌, ◌≤◌, ◌⊎◌, Bool, true, false, ◌||◌, nat_lt, inl, inr, Option, Some, None, IsSome, refl, sym, subst, ◌∙◌, arith}
use Rattle.std.proofs.lemmas.Bool.{cases_eq, cases_lt, lt-ltb, ltb-true, or_cases, true≢false}
use Rattle.rept_report.specs.declared.nearest.found.NearestValue.{NearestValue}
use Rattle.rept_report.specs.Nearest.Nets.{Links, IsWithinLinks, IsNearest}
use Rattle.rept_report.specs.Nearest.Nets.IsWithinLinks.{here, onward}
use Rattle.rept_report.proofs.Told.{none_some}
use Rattle.rept_report.specs.Timeline.{Timeline, IsTimeline}
use Rattle.rept_report.specs.declared.origin.step.Direction.{Direction}
use Rattle.rept_report.specs.declared.origin.step.Direction.TheVariants.{Onward, Back}
use Rattle.rept_report.specs.Origin.Bridges.{ByteAlong, carries_over, carries_by, links_over, linked_inside, is_nearer, IsLinkBeside, IsLeastFrom, IsNearerAmong}

module _ (L : Links) where
  -- one link before
  pub within_before : (n w : ℕ) → L.linked n w ≡ true → (k m : ℕ) → IsWithinLinks L w k m → IsWithinLinks L n (suc k) m
  within_before n w link _ _ (here k) = onward k n w (here k) link
  within_before n w link _ _ (onward k m x h e) = onward (suc k) m x (within_before n w link k m h) e

  -- a number beside one from which so many links lead to another
  pub record IsFirstStep (n k m : ℕ) : Type 0 where
    pub beside : ℕ
    pub linked : L.linked n beside ≡ true
    pub within : IsWithinLinks L beside k m

  -- the first of several links, or one less is enough
  pub first_step : (n j m : ℕ) → IsWithinLinks L n j m → (k : ℕ) → j ≡ suc k → IsWithinLinks L n k m ⊎ IsFirstStep n k m
  first_step n _ _ (here j) k e = inl (here k)
  first_step n _ _ (onward j m w h link) zero e = inr (record { beside = w; linked = subst (λ (x : ℕ). L.linked x w ≡ true) (at_start j m h (omega (arith, e))) link; within = here zero })
    where
      at_start : (i x : ℕ) → IsWithinLinks L n i x → i ≡ zero → x ≡ n
      at_start _ _ (here i) same = refl
      at_start _ _ (onward i x y h link) same = absurd (omega (arith, same))
  first_step n _ _ (onward j m w h link) (suc k) e = elim (first_step n j m h k (omega (arith, e))) [
    | inl less ↦ inl (onward k m w less link)
    | inr step ↦ inr (record { beside = step.beside; linked = step.linked; within = onward k m w step.within link })
  ]

  -- none of the numbers below one of which something holds is fewer links away from a value
  abbrev pub AreNotNearer : (ℕ → Bool) → ℕ → ℕ → Type 0
  AreNotNearer f links least = (w : ℕ) → w < least → f w ≡ true → (there : Option NearestValue) × IsNearest L w there × (is_nearer there links ≡ false)

  pub not_nearer_first : (f : ℕ → Bool) (links : ℕ) → AreNotNearer f links 0
  not_nearer_first f links w below holds = absurd (omega (arith, below))

  pub not_nearer_more : (f : ℕ → Bool) (links least w : ℕ) (there : Option NearestValue) → IsLeastFrom f least (Some w) → IsNearest L w there → is_nearer there links ≡ false → AreNotNearer f links least → AreNotNearer f links (w + 1)
  not_nearer_more f links least w there (it, low, first) near out before x below holds = elim (cases_lt x least) [
    | inl less ↦ before x less holds
    | inr more ↦ elim (cases_eq x w) [
      | inl same ↦ (there, subst (λ (y : ℕ). IsNearest L y there) (sym same) near, out)
      | inr ne ↦ absurd (true≢false (sym holds ∙ first x more (omega (arith, below, ne))))
    ]
  ]

  -- nor is any, where there are none from the number on
  pub none_nearer : (f : ℕ → Bool) (links least : ℕ) → IsLeastFrom f least None → AreNotNearer f links least → IsNearerAmong f L links None
  none_nearer f links least none before w holds = elim (cases_lt w least) [
    | inl less ↦ before w less holds
    | inr more ↦ absurd (true≢false (sym holds ∙ none w more))
  ]

  pub none_nearer_past : (f : ℕ → Bool) (links least last : ℕ) → ((w : ℕ) → f w ≡ true → w ≤ last) → last < least → AreNotNearer f links least → IsNearerAmong f L links None
  none_nearer_past f links least last inside past before w holds = let early = inside w holds in before w (omega (arith, early, past)) holds

  module _ (number : ℕ) (found : NearestValue) (nearest : IsNearest L number (Some found)) (far : 0 < found.links) where
    -- one with a value isn't fewer links away
    not_less : (k m v : ℕ) → k < found.links → IsWithinLinks L number k m → L.value m ≡ Some v → ⊥
    not_less k m v less h e = none_some (sym (nearest.2 k m less h) ∙ e)

    -- where fewer links lead to one from beside, it is one less
    pub is_beside : (w : ℕ) (there : Option NearestValue) → L.linked number w ≡ true → IsNearest L w there → is_nearer there found.links ≡ true → IsLinkBeside L number found.links w
    is_beside w None link near fewer = absurd (true≢false (sym fewer))
    is_beside w (Some there) link near fewer = record { linked = link; found = there; nearest = near; nearer = exactly }
      where
        less : there.links < found.links
        less = ltb-true there.links found.links fewer

        exactly : there.links + 1 ≡ found.links
        exactly = elim (cases_lt (there.links + 1) found.links) [
          | inl short ↦ absurd (not_less (suc there.links) there.number there.value (omega (arith, short)) (within_before number w link there.links there.number near.1) near.0)
          | inr long ↦ let low = less in omega (arith, low, long)
        ]

    -- one of them is
    some_nearer : (w k v : ℕ) (there : Option NearestValue) → IsNearest L w there → IsWithinLinks L w k found.number → L.value found.number ≡ Some v → k < found.links → is_nearer there found.links ≡ false → ⊥
    some_nearer w k v None near within value less out = none_some (sym (near k found.number within) ∙ value)
    some_nearer w k v (Some there) near within value less out = elim (cases_lt k there.links) [
      | inl short ↦ none_some (sym (near.2 k found.number short within) ∙ value)
      | inr long ↦ true≢false (sym (lt-ltb there.links found.links (omega (arith, long, less))) ∙ out)
    ]

    pub one_is_nearer : ((w : ℕ) → L.linked number w ≡ true → (there : Option NearestValue) × IsNearest L w there × (is_nearer there found.links ≡ false)) → ⊥
    one_is_nearer before = go found.links refl
      where
        go : (j : ℕ) → found.links ≡ j → ⊥
        go zero e = omega (arith, far, e)
        go (suc k) e = elim (first_step number found.links found.number nearest.1 k e) [
          | inl less ↦ not_less k found.number found.value (omega (arith, e)) less nearest.0
          | inr step ↦
              let out = before step.beside step.linked in
              some_nearer step.beside k found.value out.0 out.1 step.within nearest.0 (omega (arith, e)) out.2
        ]

way_linked : (t : Timeline) (b : ByteAlong) (m : ℕ) (way : Direction) (w : ℕ) → carries_by t b m (record { from = w; way = way }) ≡ true → (links_over t b).linked m w ≡ true
way_linked t b m Onward w e = rw e refl
way_linked t b m Back w e = second (carries_over t b w m) (carries_over t b m w) e
  where
    second : (c d : Bool) → d ≡ true → (c || d) ≡ true
    second true d e = refl
    second false d e = e

pub way_inside : (t : Timeline) (b : ByteAlong) → IsTimeline t → (m : ℕ) (way : Direction) (w : ℕ) → carries_by t b m (record { from = w; way = way }) ≡ true → w ≤ (links_over t b).last
way_inside t b laws m way w e = linked_inside t laws b m w (way_linked t b m way w e)

-- the steps by which a byte is carried to a moment, both ways
module _ (t : Timeline) (b : ByteAlong) (m : ℕ) (found : NearestValue) (near : IsNearest (links_over t b) m (Some found)) (far : 0 < found.links) where
  abbrev by : Direction → ℕ → Bool
  by way w = carries_by t b m (record { from = w; way = way })

  pub step_is_beside : (way : Direction) (from : ℕ) → IsNearerAmong (by way) (links_over t b) found.links (Some from) → IsLinkBeside (links_over t b) m found.links from
  step_is_beside way from (holds, (there, at, fewer)) = is_beside (links_over t b) m found near far from there (way_linked t b m way from holds) at fewer

  -- where none is nearer from which the byte is carried back, one is from which it is carried on
  pub one_onward : (earlier : Option ℕ) → IsNearerAmong (by Back) (links_over t b) found.links None → IsNearerAmong (by Onward) (links_over t b) found.links earlier → IsSome earlier
  one_onward (Some w) back on = refl
  one_onward None back on = absurd (one_is_nearer (links_over t b) m found near far (λ w link. elim (or_cases (carries_over t b w m) (carries_over t b m w) link) [
    | inl ahead ↦ on w ahead
    | inr other ↦ back w other
  ]))
