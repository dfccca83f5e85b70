-- A byte that is like another one is carried as that one is.
use Rattle.std.proofs.Common.{◌≡◌, ℕ, ◌+◌, ◌<◌, ◌≤◌, ◌^◌, length, Bool, true, false, Option, Some, None, IfSome, inl, inr, refl, sym, subst, ◌∙◌, arith, slice_get}
use Rattle.std.proofs.lemmas.Bool.{cases_lt, false≢true}
use Rattle.std.proofs.lemmas.Option.{slice_get_within}
use Rattle.rept_alias.specs.Accesses.{call_hits}
use Rattle.rept_reason.specs.Facts.{Knowledge, told}
use Rattle.rept_report.specs.Log.{oldest}
use Rattle.rept_report.specs.Spots.{passage}
use Rattle.rept_report.specs.Views.{may_write, Carries}
use Rattle.rept_report.proofs.Places.{oldest_all}
use Rattle.rept_report.proofs.Registers.{may_write_same}
use Rattle.rept_writing.specs.Hits.{IsFirstHit, IsNextHitBelow}
use Rattle.rept_writing.specs.declared.list.Writing.{Writing}
use Rattle.rept_propagate.specs.declared.pairs.Pairs.{Pairs}
use Rattle.rept_facts.specs.State.{AnalysisState, all_known, along}
use Rattle.rept_facts.specs.Inferring.{HasInferred, IsSpared, AreWritings, AreExact, IsCarriedOver, IsCarriedAlong, CarriedAlongBelow, IsEven}
use Rattle.rept_propagate.specs.Pairs.{GoWith}
use Rattle.rept_propagate.specs.Likeness.{IsToldBy, AreHitsShared, IsLikeByte, IsLikeAny, IsCurrent}
use Rattle.rept_facts.proofs.Conclusion.{tracked_more}
use Rattle.rept_facts.proofs.Listing.{same_hit, spared_by}

module _ {W : Type 0} (s : AnalysisState W) (writings : AreWritings s) (current : IsCurrent s) (exact : AreExact s) (a b : ℕ) (low : a < 2 ^ 32) (small : b < 2 ^ 32) (like : IsLikeByte a b s) where
  abbrev K : Knowledge
  K = told (oldest s.filled s.known.log)

  -- the sets are those of the whole log
  whole : oldest s.filled s.known.log ≡ s.known.log
  whole = let all = current.filled in oldest_all s.filled s.known.log (omega (arith, all))

  told_spared : (i : ℕ) → IsSpared i a s → may_write (along s.path) K i a ≡ false
  told_spared i (inl old) = old
  told_spared i (inr now) = may_write_same (along s.path) K (all_known s) (λ q r. rw whole refl) i a ∙ now current.quiet

  -- what may not write the other byte may not write the first
  spared_too : (i : ℕ) → may_write (along s.path) K i b ≡ false → may_write (along s.path) K i a ≡ false
  spared_too i free = told_spared i (spared_by s writings a low i (λ j w found row hits.
      let may : may_write (along s.path) K i b ≡ true = subst (λ (n : ℕ). may_write (along s.path) K n b ≡ true) row (exact j w b found small (like.hits j w found hits)) in
      false≢true (sym free ∙ may)))

  carries_too : (m w : ℕ) → Carries (along s.path) K (passage b m w) → Carries (along s.path) K (passage a m w)
  carries_too m w h = record { next = h.next; light = h.light; spared = λ i may_act. spared_too i (h.spared i may_act) }

  -- the same is known of the first one
  same_first : (m w : ℕ) → IsCarriedOver (passage a m w) s → Carries (along s.path) K (passage a m w) → s.known.store.fact m a ≡ s.known.store.fact w a
  same_first m w over h = go (s.known.store.fact m a) (s.known.store.fact w a) refl refl
    where
      go : (x y : Option ℕ) → s.known.store.fact m a ≡ x → s.known.store.fact w a ≡ y → s.known.store.fact m a ≡ s.known.store.fact w a
      go (Some v) y e f = e ∙ sym (over.onward v h e)
      go None (Some v) e f = over.back v h f ∙ sym f
      go None None e f = e ∙ sym f

  same_other : ((m w : ℕ) → IsCarriedOver (passage a m w) s) → (m w : ℕ) → Carries (along s.path) K (passage b m w) → s.known.store.fact m b ≡ s.known.store.fact w b
  same_other carried m w h =
      let early = writings.laws.moments.inside m w h.next in
      like.told m w early.0 early.1 (same_first m w (carried m w) (carries_too m w h))

  carried_over : ((m w : ℕ) → IsCarriedOver (passage a m w) s) → (m w : ℕ) → IsCarriedOver (passage b m w) s
  carried_over carried m w = record {
    onward = λ v h known. sym (same_other carried m w h) ∙ known;
    back = λ v h known. same_other carried m w h ∙ known;
  }

pub carried_like : {W : Type 0} (s : AnalysisState W) → AreWritings s → IsCurrent s → (leader : Option ℕ) (b : ℕ) → IfSome leader (λ a. a < 2 ^ 32) → b < 2 ^ 32 → IsLikeAny leader b s → IfSome leader (λ a. IsCarriedAlong a s) → IsCarriedAlong b s
carried_like s writings current None b low small like carried exact = absurd like
carried_like s writings current (Some a) b low small like carried exact = carried_over s writings current exact a b low small like (carried exact)

-- the tracked bytes before an index are carried, and so is the leader
abbrev pub AreLed : {W : Type 0} → Option ℕ → ℕ → AnalysisState W → Type 0
AreLed leader n s = CarriedAlongBelow n s × IfSome leader (λ a. IsCarriedAlong a s)

-- one more is carried that is like the leader
pub led_more : {W : Type 0} (s t : AnalysisState W) (learnt : Bool) (leader : Option ℕ) (k b : ℕ) → AreWritings s → IsCurrent s → IfSome leader (λ a. a < 2 ^ 32) → b < 2 ^ 32 → slice_get t.known.store.tracked k ≡ Some b → IsLikeAny leader b t → HasInferred s t learnt (AreLed leader k) → HasInferred s t learnt (AreLed leader (k + 1))
led_more s t learnt leader k b writings current low small at like inferred = record {
  news = inferred.news;
  unchanged = inferred.unchanged;
  closed = λ e.
      let same = inferred.unchanged e in
      let before = inferred.closed e in
      let there : slice_get s.known.store.tracked k ≡ Some b = subst (λ (x : AnalysisState _). slice_get x.known.store.tracked k ≡ Some b) same at in
      let here = carried_like s writings current leader b low small (subst (λ (x : AnalysisState _). IsLikeAny leader b x) same like) before.1 in
      (tracked_more s (λ c x. IsCarriedAlong c x) k b there before.0 here, before.1);
  uncut = inferred.uncut;
}

-- what goes with something is one
go_once : (p : Pairs) (x y z : Option ℕ) → GoWith p x y → GoWith p x z → y ≡ z
go_once p None y z e f = e ∙ sym f
go_once p (Some v) y z e f = sym e.1 ∙ f.1

module _ {W : Type 0} (a b : ℕ) (s : AnalysisState W) where
  -- at all numbers below one it goes
  abbrev pub GoBelow : ℕ → Pairs → Type 0
  GoBelow n p = (i : ℕ) → i < n → GoWith p (s.known.store.fact i a) (s.known.store.fact i b)

  pub go_more : (old new : Pairs) (from first other to : ℕ) → ((x y : Option ℕ) → GoWith old x y → GoWith new x y) → GoBelow from old → IsEven a from first s → IsEven b from other s → to ≤ first → to ≤ other → GoWith new (s.known.store.fact from a) (s.known.store.fact from b) → GoBelow (to + 1) new
  go_more old new from first other to kept below even_a even_b near_a near_b here i lt =
      elim (cases_lt i from) [
        | inl early ↦ kept (s.known.store.fact i a) (s.known.store.fact i b) (below i early)
        | inr late ↦
            let one : s.known.store.fact i a ≡ s.known.store.fact from a = even_a i late (omega (arith, lt, near_a)) in
            let two : s.known.store.fact i b ≡ s.known.store.fact from b = even_b i late (omega (arith, lt, near_b)) in
            subst (λ (x : Option ℕ). GoWith new x (s.known.store.fact i b)) (sym one) (subst (λ (y : Option ℕ). GoWith new (s.known.store.fact from a) y) (sym two) here)
      ]

  pub told_all : (p : Pairs) (n : ℕ) → s.path.given.moments.end < n → GoBelow n p → IsToldBy a b s
  told_all p n far go m w early late same =
      let one = go m (omega (arith, early, far)) in
      let two = go w (omega (arith, late, far)) in
      go_once p (s.known.store.fact w a) (s.known.store.fact m b) (s.known.store.fact w b) (subst (λ (x : Option ℕ). GoWith p x (s.known.store.fact m b)) same one) two

  -- the entries of the list below one that may write the first may write the other one
  abbrev pub AreSharedBelow : ℕ → Type 0
  AreSharedBelow n = (k : ℕ) (w : Writing) → k < n → slice_get s.work.writing k ≡ Some w → call_hits w.access a ≡ true → call_hits w.access b ≡ true

  pub shared_more : (k h : ℕ) (x : Writing) → AreSharedBelow k → IsFirstHit s.work.writing k a h → slice_get s.work.writing h ≡ Some x → call_hits x.access b ≡ true → AreSharedBelow (h + 1)
  shared_more k h x before first at here j w lt found hits =
      elim (cases_lt j k) [
        | inl early ↦ before j w early found hits
        | inr late ↦
            elim (cases_lt j h) [
              | inl less ↦ absurd (false≢true (sym (first.none_before j late less) ∙ (same_hit s.work.writing j a w found ∙ hits)))
              | inr more ↦
                  let same : h ≡ j = omega (arith, lt, more) in
                  let its : x ≡ w = same_writing (sym at ∙ rw same found) in
                  subst (λ (y : Writing). call_hits y.access b ≡ true) its here
            ]
      ]
    where
      same_writing : {x y : Writing} → Some x ≡ Some y → x ≡ y
      same_writing z = cc

  pub shared_all : (k end : ℕ) → end ≡ length s.work.writing → AreSharedBelow k → IsNextHitBelow s.work.writing k end a None → AreHitsShared a b s
  shared_all k end all before none j w found hits =
      elim (cases_lt j k) [
        | inl early ↦ before j w early found hits
        | inr late ↦
            let within = slice_get_within s.work.writing j w found in
            absurd (false≢true (sym (none j late (omega (arith, within, all))) ∙ (same_hit s.work.writing j a w found ∙ hits)))
      ]
