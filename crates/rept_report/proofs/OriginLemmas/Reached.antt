-- In a log the numbers linked so are the moments between which a byte is carried, and links are
-- uses of the rules that carry it.
use Rattle.std.proofs.Common.{◌≡◌, ℕ, zero, suc, ◌+◌, ◌<◌, ◌≤◌, Bool, true, false, ◌||◌, cond, eqb, inl, inr, List, Option, Some, None, refl, sym, subst, ◌∙◌, arith}
use Rattle.std.proofs.lemmas.Bool.{cases_eq, cases_lt, cond-true, cond-false, eq-eqb, ne_eqb}
use Rattle.rept_report.specs.declared.nearest.found.NearestValue.{NearestValue}
use Rattle.rept_report.specs.Nearest.Nets.{Links, IsWithinLinks, IsNearest}
use Rattle.rept_report.specs.Nearest.Nets.IsWithinLinks.{here, onward}
use Rattle.rept_reason.specs.declared.fact.Fact.{Fact}
use Rattle.rept_reason.specs.declared.fact.Cell.TheVariants.{Byte}
use Rattle.rept_reason.specs.Facts.{told}
use Rattle.rept_report.specs.Setting.{Setting, HasLaws}
use Rattle.rept_report.specs.Spots.{passage}
use Rattle.rept_report.specs.Reasons.{IsSource, IsReached}
use Rattle.rept_report.specs.Reasons.IsReached.{here as reached_here, onward as reached_onward, back as reached_back}
use Rattle.rept_report.specs.Why.{IsNearer}
use Rattle.rept_report.specs.Origin.Logs.{source}
use Rattle.rept_report.specs.Search.{carries}
use Rattle.rept_report.proofs.Told.{none_some}
use Rattle.rept_report.proofs.Why.{or_some, is_carried, links_is}
use Rattle.rept_report.specs.Origin.Bridges.{IsLinkBeside}
use Rattle.rept_report.specs.Origin.Logs.{links_in}
use Rattle.rept_report.proofs.OriginLemmas.Links.{within_before}

first_true : (b c : Bool) → b ≡ true → (b || c) ≡ true
first_true b c e = rw e refl

second_true : (b c : Bool) → c ≡ true → (b || c) ≡ true
second_true true c e = refl
second_true false c e = e

module _ {W : Type 0} (S : Setting W) (laws : HasLaws S) (fs : List Fact) (a : ℕ) where
  abbrev L : Links
  L = links_in S fs a

  source_is : (m v : ℕ) → source S fs a m ≡ Some v → IsSource S fs a m
  source_is m v e = elim (or_some (told fs m (Byte a)) (cond (eqb m S.moments.end) (S.dump a) None) v e) [
    | inl t ↦ inl (v, t)
    | inr (none, t) ↦ elim (cases_eq m S.moments.end) [
      | inl at ↦ inr (at, (v, sym (cond-true (eqb m S.moments.end) (S.dump a) None (eq-eqb m S.moments.end at)) ∙ t))
      | inr ne ↦ absurd (none_some (sym (cond-false (eqb m S.moments.end) (S.dump a) None (ne_eqb m S.moments.end ne)) ∙ t))
    ]
  ]

  is_source : (m : ℕ) → IsSource S fs a m → (v : ℕ) × (source S fs a m ≡ Some v)
  is_source m (inl (v, e)) = (v, rw e refl)
  is_source m (inr (at, (v, e))) = go (told fs m (Byte a)) refl
    where
      go : (y : Option ℕ) → told fs m (Byte a) ≡ y → (u : ℕ) × (source S fs a m ≡ Some u)
      go (Some u) is = (u, rw is refl)
      go None is = (v, rw is (cond-true (eqb m S.moments.end) (S.dump a) None (eq-eqb m S.moments.end at) ∙ e))

  -- what so many links lead to is reached with no more uses beside its own
  within_reached : (m k n : ℕ) → IsWithinLinks L m k n → (j : ℕ) → IsReached S fs a j n → (i : ℕ) × (i ≤ k + j) × IsReached S fs a i m
  within_reached m _ _ (here k) j x = (j, omega arith, x)
  within_reached m _ _ (onward k n w h link) j x =
      let nearer : IsReached S fs a (suc j) n = elim (links_is S laws (told fs) a w n link) [ inl c ↦ reached_onward j w n c x | inr c ↦ reached_back j n w c x ] in
      let up = within_reached m k n h (suc j) nearer in
      let le = up.1 in
      (up.0, omega (arith, le), up.2)

  -- and what is reached with so many uses is so many links from a source
  pub record IsFrom (m k : ℕ) : Type 0 where
    pub number : ℕ
    pub value : ℕ
    pub within : IsWithinLinks L m k number
    pub has : source S fs a number ≡ Some value

  reached_within : (k m : ℕ) → IsReached S fs a k m → IsFrom m k
  reached_within _ _ (reached_here m x) = let v = is_source m x in record { number = m; value = v.0; within = here zero; has = v.1 }
  reached_within _ _ (reached_onward k m w c x) =
      let from = reached_within k m x in
      record { number = from.number; value = from.value; within = within_before L w m (first_true (carries S (told fs) (passage a m w)) (carries S (told fs) (passage a w m)) (is_carried S laws (told fs) (passage a m w) c)) k from.number from.within; has = from.has }
  reached_within _ _ (reached_back k m w c x) =
      let from = reached_within k w x in
      record { number = from.number; value = from.value; within = within_before L m w (second_true (carries S (told fs) (passage a w m)) (carries S (told fs) (passage a m w)) (is_carried S laws (told fs) (passage a m w) c)) k from.number from.within; has = from.has }

  -- fewer uses don't reach it
  pub not_sooner : (m : ℕ) (found : NearestValue) → IsNearest L m (Some found) → (k : ℕ) → k < found.links → IsReached S fs a k m → ⊥
  not_sooner m found near k less x = let from = reached_within k m x in none_some (sym (near.2 k from.number less from.within) ∙ from.has)

  -- as many do
  pub as_soon : (m : ℕ) (found : NearestValue) → IsNearest L m (Some found) → IsReached S fs a found.links m
  as_soon m found near =
      let up = within_reached m found.links found.number near.1 zero (reached_here found.number (source_is found.number found.value near.0)) in
      let le = up.1 in
      elim (cases_lt up.0 found.links) [
        | inl less ↦ absurd (not_sooner m found near up.0 less up.2)
        | inr more ↦ let same : up.0 ≡ found.links = omega (arith, le, more) in subst (λ (k : ℕ). IsReached S fs a k m) same up.2
      ]

  pub never : (m : ℕ) → IsNearest L m None → (k : ℕ) → IsReached S fs a k m → ⊥
  never m none k x = let from = reached_within k m x in none_some (sym (none k from.number from.within) ∙ from.has)

  -- a moment beside it that is one link nearer needs fewer uses
  pub beside_is_nearer : (m w : ℕ) (found : NearestValue) → IsNearest L m (Some found) → IsLinkBeside L m found.links w → IsNearer S fs a w m
  beside_is_nearer m w found near beside = record {
    uses = beside.found.links;
    here = as_soon w beside.found beside.nearest;
    not_there = λ k le x. let less = beside.nearer in not_sooner m found near k (omega (arith, le, less)) x;
  }
