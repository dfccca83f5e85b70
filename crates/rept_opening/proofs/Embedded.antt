-- Where moments stand for others, to which a byte is propagated no less, all that is known by them
-- is known by the others.
use Rattle.std.proofs.Common.{◌≡◌, ◌⊎◌, ℕ, ◌≤◌, List, [], ◌∷◌, Contains, Option, Some, inl, inr, refl, sym, ap, ◌∙◌, subst}
use mathlib.Core.Path.{fun_ext}
use Rattle.rept_isa.specs.declared.row.StepRow.{StepRow}
use Rattle.rept_partial.specs.declared.range.Range.{Range}
use Rattle.rept_reason.specs.declared.fact.Fact.{Fact}
use Rattle.rept_reason.specs.declared.fact.Cell.{Cell}
use Rattle.rept_reason.specs.declared.fact.Cell.TheVariants.{Register, Byte}
use Rattle.rept_reason.specs.Facts.{Knowledge, In, told, register_known}
use Rattle.rept_reason.specs.declared.view.inferred.When.{When}
use Rattle.rept_reason.specs.declared.view.inferred.When.TheVariants.{Before, After}
use Rattle.rept_reason.specs.View.Seen.{Seen}
use Rattle.rept_span.specs.Ranges.{range}
use Rattle.rept_report.specs.Closure.{Derivation, IsReport}
use Rattle.rept_report.specs.Conclusions.{HasWords, IsCarried, Follows, Concludes}
use Rattle.rept_report.specs.Conclusions.IsCarried.{last_byte, onward, back}
use Rattle.rept_report.specs.Conclusions.Follows.{last_value, kept_onward, kept_back, carried, inferred, only_value}
use Rattle.rept_report.specs.Conflicts.{IsQuiet}
use Rattle.rept_report.specs.Knowing.{Extends, KnowSameRegisters}
use Rattle.rept_report.specs.Moments.{Moments}
use Rattle.rept_report.specs.Setting.{Setting, HasLaws, IsInstant, IsLast, way_of}
use Rattle.rept_report.specs.Spots.{passage}
use Rattle.rept_report.specs.Views.{point_of, moment_of, instant_of, known_or, register_range, seen_at, Carries}
use Rattle.rept_report.proofs.Monotony.{Concludes_more}
use Rattle.rept_report.proofs.Registers.{quiet_same, range_same, may_write_same, seen_range_same}
use Rattle.rept_report.proofs.Told.{told_in}
use Rattle.rept_opening.proofs.Renumbered.{moved, with_moments}

-- Each number of the one numbering stands for one of the other, and what is carried between two is
-- carried between those that they stand for, unless that is one.
pub record Embeds {W : Type 0} (S : Setting W) (M N : Moments) (to : ℕ → ℕ) : Type 0 where
  pub before : (i : ℕ) (row : StepRow) → S.legs.row i ≡ Some row → to (M.before i) ≡ N.before i
  pub after : (i : ℕ) (row : StepRow) → S.legs.row i ≡ Some row → to (M.after i) ≡ N.after i
  pub end : to M.end ≡ N.end
  pub inside : (m : ℕ) → m ≤ M.end → to m ≤ N.end
  pub carries : (K : Knowledge) (a m w : ℕ) → Carries (with_moments S M) K (passage a m w) → (to m ≡ to w) ⊎ Carries (with_moments S N) K (passage a (to m) (to w))

-- what is known by the other numbers, at those that stand for them
abbrev pub known_through : (ℕ → ℕ) → Knowledge → Knowledge
known_through to L p (Register r) = L p (Register r)
known_through to L m (Byte a) = L (to m) (Byte a)

abbrev seen_with : (When → ℕ → Option ℕ) → (When → ℕ → Option ℕ) → (When → ℕ → Range) → Seen
seen_with register byte range = record { register = register; byte = byte; range = range }

module _ {W : Type 0} (S : Setting W) (M N : Moments) (to : ℕ → ℕ) (embeds : Embeds S M N to) (laws : HasLaws (with_moments S M)) where
  abbrev one : Setting W
  one = with_moments S M

  abbrev other : Setting W
  other = with_moments S N

  module _ (L : Knowledge) (words : HasWords L) (quiet : IsQuiet other L) (closed : (f : Fact) → Concludes other L f → L f.point f.cell ≡ Some f.value) where
    abbrev K : Knowledge
    K = known_through to L

    registers : KnowSameRegisters K L
    registers p r = refl

    register_point : (f : Fact) (r : ℕ) → f.cell ≡ Register r → moved to f.cell f.point ≡ f.point
    register_point f r c = ap (λ (x : Cell). moved to x f.point) c

    byte_point : (f : Fact) (a : ℕ) → f.cell ≡ Byte a → moved to f.cell f.point ≡ to f.point
    byte_point f a c = ap (λ (x : Cell). moved to x f.point) c

    -- the fact stands by the other numbers
    abbrev Stands : Fact → Type 0
    Stands f = L (moved to f.cell f.point) f.cell ≡ Some f.value

    abbrev fact_by : Fact → Fact
    fact_by f = record { point = moved to f.cell f.point; cell = f.cell; value = f.value }

    quiet_here : IsQuiet one K
    quiet_here = quiet_same one L K (λ p r. refl) (record { full = λ p r early in_file e. quiet.full p r early in_file e; right = λ i h. quiet.right i (record { row = h.row; is_row = h.is_row; wrong = h.wrong }) })

    words_here : HasWords K
    words_here p r v e = words p r v e

    byte_there : (i : ℕ) (row : StepRow) → S.legs.row i ≡ Some row → (w : When) (a : ℕ) → K (moment_of M i w) (Byte a) ≡ L (moment_of N i w) (Byte a)
    byte_there i row is Before a = ap (λ (m : ℕ). L m (Byte a)) (embeds.before i row is)
    byte_there i row is After a = ap (λ (m : ℕ). L m (Byte a)) (embeds.after i row is)

    seen_there : (i : ℕ) (row : StepRow) → S.legs.row i ≡ Some row → seen_at one K i ≡ seen_at other L i
    seen_there i row is =
        ap (λ (x : When → ℕ → Option ℕ). seen_with (λ w r. register_known L (point_of i w) r) x (λ w r. known_or (register_known K (point_of i w) r) (register_range S K (point_of i w) r))) (fun_ext (λ w. fun_ext (λ a. byte_there i row is w a)))
        ∙ ap (λ (x : When → ℕ → Range). seen_with (λ w r. register_known L (point_of i w) r) (λ w a. L (moment_of N i w) (Byte a)) x) (fun_ext (λ w. fun_ext (λ r. seen_range_same S K L registers (point_of i w) r)))

    instant_to : (i : ℕ) (row : StepRow) → S.legs.row i ≡ Some row → (w : When) (c : Cell) → moved to c (instant_of M i w c) ≡ instant_of N i w c
    instant_to i row is w (Register r) = refl
    instant_to i row is Before (Byte a) = embeds.before i row is
    instant_to i row is After (Byte a) = embeds.after i row is

    early_to : (c : Cell) (p : ℕ) → IsInstant one c p → IsInstant other c (moved to c p)
    early_to (Register r) p h = h
    early_to (Byte a) p h = embeds.inside p h

    concluded : (f : Fact) → Concludes one K f → Follows other L (fact_by f) → Stands f
    concluded f h by = closed (fact_by f) (record { early = early_to f.cell f.point h.early; cell = h.cell; word = h.word; by = by })

    carries_to : (a m w : ℕ) → Carries one K (passage a m w) → (to m ≡ to w) ⊎ Carries other L (passage a (to m) (to w))
    carries_to a m w h =
        elim (embeds.carries K a m w h) [
          | inl same ↦ inl same
          | inr there ↦ inr (record { next = there.next; light = there.light; spared = λ i may_act. sym (may_write_same other K L registers i a) ∙ there.spared i may_act })
        ]

    -- a byte that is known by one number is known by the number that it stands for
    stands_at : (f : Fact) (a m : ℕ) → f.cell ≡ Byte a → to f.point ≡ m → L m (Byte a) ≡ Some f.value → Stands f
    stands_at f a m c at e = ap (λ (p : ℕ). L p f.cell) (byte_point f a c ∙ at) ∙ ap (λ (x : Cell). L m x) c ∙ e

    carried_to : (f : Fact) → Concludes one K f → IsCarried one K f → Stands f
    carried_to f h (last_byte a p c e) = concluded f h (carried (last_byte a (byte_point f a c ∙ ap to p ∙ embeds.end) c e))
    carried_to f h (onward a p q is c k e) =
        elim (carries_to a p q k) [
          | inl same ↦ stands_at f a (to p) c (ap to is ∙ sym same) e
          | inr there ↦ concluded f h (carried (onward a (to p) (to q) (byte_point f a c ∙ ap to is) c there e))
        ]
    carried_to f h (back a p q is c k e) =
        elim (carries_to a p q k) [
          | inl same ↦ stands_at f a (to q) c (ap to is ∙ same) e
          | inr there ↦ concluded f h (carried (back a (to p) (to q) (byte_point f a c ∙ ap to is) c there e))
        ]

    follows_to : (f : Fact) → Concludes one K f → Follows one K f → Stands f
    follows_to f h (last_value r p c e) =
        let here = sym (register_point f r c) in
        concluded f h (last_value r (subst (λ (q : ℕ). IsLast other q) here p) c (subst (λ (q : ℕ). S.last q r ≡ Some f.value) here e))
    follows_to f h (kept_onward i r row is p c kept e) = concluded f h (kept_onward i r row is (register_point f r c ∙ p) c kept e)
    follows_to f h (kept_back i r row is p c kept e) = concluded f h (kept_back i r row is (register_point f r c ∙ p) c kept e)
    follows_to f h (carried k) = carried_to f h k
    follows_to f h (inferred i row d is k p c v) =
        concluded f h (
        inferred i row d is (subst (λ (s : Seen). Contains (S.rules.infer row s) d) (seen_there i row is) k)
        (ap (moved to f.cell) p ∙ ap (λ (x : Cell). moved to x (instant_of M i d.when d.cell)) c ∙ instant_to i row is d.when d.cell) c v
        )
    follows_to f h (only_value r set c is only) =
        concluded f h (only_value r set c (subst (λ (q : ℕ). range (way_of S) L q r ≡ Some set) (sym (register_point f r c)) (sym (range_same S K L registers f.point r) ∙ is)) only)

    -- each fact of a derivation by the one stands by the other
    stands : (fs : List Fact) → Derivation one fs → (f : Fact) → In fs f → Stands f
    stands [] d f h = absurd h
    stands (g ∷ gs) d f (inl e) =
        let older : Extends (told gs) K = λ p c v t. through p c v (stands gs d.0 (record { point = p; cell = c; value = v }) (told_in gs p c v t)) in
        let here = Concludes_more one laws (told gs) K older words_here quiet_here g d.2 in
        rw e (follows_to g here here.by)
      where
        through : (p : ℕ) (c : Cell) (v : ℕ) → L (moved to c p) c ≡ Some v → K p c ≡ Some v
        through p (Register r) v k = k
        through p (Byte a) v k = k
    stands (g ∷ gs) d f (inr h) = stands gs d.0 f h

    -- so is all that a report knows
    pub report_stands : (H : Knowledge) → IsReport one H → (p : ℕ) (c : Cell) (v : ℕ) → H p c ≡ Some v → L (moved to c p) c ≡ Some v
    report_stands H report p c v e =
        let x = (report.exact (record { point = p; cell = c; value = v })).0 e in
        stands x.0 x.1 (record { point = p; cell = c; value = v }) x.2
