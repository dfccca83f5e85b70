-- What the search from moment to moment finds is what stands in a prefix of a log.
use Rattle.std.proofs.Common.{◌≡◌, ℕ, ◌+◌, ◌<◌, ◌≤◌, ◌^◌, cond, eqb, inl, inr, List, get_or, Option, Some, None, refl, sym, ap, ◌∙◌, arith}
use Rattle.std.proofs.lemmas.Bool.{cases_eq, cond-true, cond-false, eq-eqb, ne_eqb}
use Rattle.rept_reason.specs.declared.fact.Fact.{Fact}
use Rattle.rept_reason.specs.declared.fact.Cell.TheVariants.{Byte}
use Rattle.rept_reason.specs.Facts.{told}
use Rattle.rept_report.specs.declared.nearest.found.NearestValue.{NearestValue}
use Rattle.rept_report.specs.Nearest.Nets.{IsWithinLinks, IsNearest}
use Rattle.rept_report.specs.Nearest.Nets.IsWithinLinks.{here, onward as one_more}
use Rattle.rept_report.specs.Setting.{Setting, HasLaws}
use Rattle.rept_report.specs.Reasons.{StandsIn}
use Rattle.rept_report.specs.Reasons.StandsIn.{listed, last_byte, onward, back}
use Rattle.rept_report.specs.Why.{fact_of}
use Rattle.rept_report.specs.Origin.Logs.{or_else, source}
use Rattle.rept_report.specs.Search.{byte_at}
use Rattle.rept_report.proofs.Told.{told_in, none_some}
use Rattle.rept_report.proofs.Why.{or_some, links_is, found_reached, found_stands, stands_found}
use Rattle.rept_report.specs.Origin.Logs.{links_in}
use Rattle.rept_report.proofs.OriginLemmas.Reached.{never}
use Rattle.rept_log.specs.Bytes.{AreTold}

module _ {W : Type 0} (S : Setting W) (fs : List Fact) (a : ℕ) where
  -- the byte of the log or of the dump, by a table of those of the log
  module _ (bytes : List (Option ℕ)) (table : AreTold fs S.moments.end a bytes) (early : (m v : ℕ) → told fs m (Byte a) ≡ Some v → m ≤ S.moments.end) where
    not_told_past : (m : ℕ) → S.moments.end < m → told fs m (Byte a) ≡ None
    not_told_past m past = go (told fs m (Byte a)) refl
      where
        go : (x : Option ℕ) → told fs m (Byte a) ≡ x → told fs m (Byte a) ≡ None
        go None e = e
        go (Some v) e = let le = early m v e in absurd (omega (arith, past, le))

    pub source_past : (m : ℕ) → S.moments.end < m → None ≡ source S fs a m
    source_past m past = sym (ap (λ (x : Option ℕ). or_else x (cond (eqb m S.moments.end) (S.dump a) None)) (not_told_past m past) ∙ cond-false (eqb m S.moments.end) (S.dump a) None (ne_eqb m S.moments.end (λ e. omega (arith, past, e))))

    pub source_told : (m v : ℕ) → m ≤ S.moments.end → get_or bytes m None ≡ Some v → Some v ≡ source S fs a m
    source_told m v le e = sym (ap (λ (x : Option ℕ). or_else x (cond (eqb m S.moments.end) (S.dump a) None)) (sym (table.told_at m le) ∙ e))

    pub source_at_end : (m : ℕ) → m ≡ S.moments.end → get_or bytes m None ≡ None → S.dump a ≡ source S fs a m
    source_at_end m at e = sym (ap (λ (x : Option ℕ). or_else x (cond (eqb m S.moments.end) (S.dump a) None)) (sym (table.told_at m (omega (arith, at))) ∙ e) ∙ cond-true (eqb m S.moments.end) (S.dump a) None (eq-eqb m S.moments.end at))

    pub source_nowhere : (m : ℕ) → m ≤ S.moments.end → (m ≡ S.moments.end → ⊥) → get_or bytes m None ≡ None → None ≡ source S fs a m
    source_nowhere m le ne e = sym (ap (λ (x : Option ℕ). or_else x (cond (eqb m S.moments.end) (S.dump a) None)) (sym (table.told_at m le) ∙ e) ∙ cond-false (eqb m S.moments.end) (S.dump a) None (ne_eqb m S.moments.end ne))

  module _ (laws : HasLaws S) (small : a < 2 ^ 32) where
    source_stands : (m v : ℕ) → source S fs a m ≡ Some v → StandsIn S fs (fact_of m (Byte a) v)
    source_stands m v e = elim (or_some (told fs m (Byte a)) (cond (eqb m S.moments.end) (S.dump a) None) v e) [
      | inl t ↦ listed (fact_of m (Byte a) v) (told_in fs m (Byte a) v t)
      | inr (none, t) ↦ elim (cases_eq m S.moments.end) [
        | inl at ↦ last_byte (fact_of m (Byte a) v) a at refl small (sym (cond-true (eqb m S.moments.end) (S.dump a) None (eq-eqb m S.moments.end at)) ∙ t)
        | inr ne ↦ absurd (none_some (sym (cond-false (eqb m S.moments.end) (S.dump a) None (ne_eqb m S.moments.end ne)) ∙ t))
      ]
    ]

    -- what stands where links lead to stands here too
    within_stands : (m k n v : ℕ) → IsWithinLinks (links_in S fs a) m k n → StandsIn S fs (fact_of n (Byte a) v) → StandsIn S fs (fact_of m (Byte a) v)
    within_stands m _ _ v (here k) h = h
    within_stands m _ _ v (one_more k n w x link) h = within_stands m k n v x (elim (links_is S laws (told fs) a w n link) [
      | inl c ↦ onward (fact_of n (Byte a) v) (fact_of w (Byte a) v) a w n refl refl c refl refl refl h
      | inr c ↦ back (fact_of n (Byte a) v) (fact_of w (Byte a) v) a n w refl refl c refl refl refl h
    ])

    -- the byte at the nearest moment is the one that stands, where one value stands
    pub found_is : (m : ℕ) → m ≤ S.moments.end → ((v w : ℕ) → StandsIn S fs (fact_of m (Byte a) v) → StandsIn S fs (fact_of m (Byte a) w) → v ≡ w) → (found : NearestValue) → IsNearest (links_in S fs a) m (Some found) → Some found.value ≡ byte_at S fs m a
    found_is m le single found near =
        let stands = within_stands m found.links found.number found.value near.1 (source_stands found.number found.value near.0) in
        let there = stands_found S laws fs a (fact_of m (Byte a) found.value) le stands refl in
        let same = single there.0 found.value (found_stands S laws fs a small m there.0 there.1) stands in
        sym (there.1 ∙ ap Some same)

    pub none_is : (m : ℕ) → IsNearest (links_in S fs a) m None → None ≡ byte_at S fs m a
    none_is m none = go (byte_at S fs m a) refl
      where
        go : (x : Option ℕ) → byte_at S fs m a ≡ x → None ≡ byte_at S fs m a
        go None e = sym e
        go (Some v) e = let reached = found_reached S laws fs a (S.moments.end + 1) m v e in absurd (never S laws fs a m none reached.0 reached.2)
