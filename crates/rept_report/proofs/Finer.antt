-- Sets that are never wider than those of another kind let no less follow.
use Rattle.std.proofs.Common.{◌≡◌, ℕ, ◌<◌, ◌≤◌, ◌^◌, ◌⊎◌, Bool, true, false, cond, eqb, List, [], ◌∷◌, Option, Some, None, inl, inr, refl, sym, ap, subst, ◌∙◌, arith, Contains}
use Rattle.std.proofs.lemmas.Bool.{cases_eq, cases_lt, cases_Bool, cond-true, cond-false, eq-eqb, ne_eqb, false≢true}
use Rattle.rept_isa.specs.declared.row.StepRow.{StepRow}
use Rattle.rept_partial.specs.Sets.{Sets, AreLawful}
use Rattle.rept_reason.specs.declared.fact.Fact.{Fact}
use Rattle.rept_reason.specs.declared.fact.Cell.{Cell}
use Rattle.rept_reason.specs.declared.fact.Cell.TheVariants.{Register, Byte}
use Rattle.rept_reason.specs.Facts.{Knowledge, IsCell, In, told, register_known, register_fact}
use Rattle.rept_span.specs.Moves.{Moves}
use Rattle.rept_span.specs.Finer.{kind, IsFiner}
use Rattle.rept_span.specs.Ranges.{range}
use Rattle.rept_span.proofs.RangeLaws.{HasIn}
use Rattle.rept_span.proofs.FinerLaws.{sets_within}
use Rattle.rept_reason.specs.View.Seen.{KnowsMore}
use Rattle.rept_report.specs.Knowing.{Extends}
use Rattle.rept_report.specs.Setting.{Setting, HasLaws, Uses, IsInstant, way_of}
use Rattle.rept_report.specs.Beside.{by_other_sets}
use Rattle.rept_report.specs.Spots.{passage}
use Rattle.rept_report.specs.Views.{point_of, bounds, register_range, seen_at, registers_at, touched_by, may_write, Carries}
use Rattle.rept_report.specs.Conclusions.{HasWords, IsCarried, Follows, Concludes}
use Rattle.rept_report.specs.Conclusions.IsCarried.{last_byte, onward, back}
use Rattle.rept_report.specs.Conclusions.Follows.{last_value, kept_onward, kept_back, carried, inferred, only_value}
use Rattle.rept_report.specs.Conflicts.{IsQuiet}
use Rattle.rept_report.specs.Closure.{Derivation, InClosure, IsReport}
use Rattle.rept_report.specs.Log.{Entry, facts_of}
use Rattle.rept_report.specs.Implied.{HasEnded, known_at_end}
use Rattle.rept_report.proofs.Told.{none_some, told_in}
use Rattle.rept_report.specs.Laws.SeenLaws.{known_word, seen_at_lawful, registers_at_lawful}
use Rattle.rept_report.proofs.ViewLaws.{LiesIn, TablesMore, exact_cases, only_in, exact_bounds, wide_bounds, seen_more, point_early, register_range_is, register_range_past}
use Rattle.rept_report.proofs.Monotony.{inferred_more, Concludes_more}
use Rattle.rept_report.proofs.Registers.{quiet_same}
use Rattle.rept_report.proofs.Traces.{words_of, trace_words}
use Rattle.rept_report.proofs.Implied.{known_closed}

-- what is known of a register other than x0 is a word
fact_small : (K : Knowledge) → HasWords K → (p r n : ℕ) → register_fact K p r ≡ Some n → n < 2 ^ 32
fact_small K words p r n e = if_small (eqb r 0) (K p (Register r)) (words p r n) e
  where
    if_small : (b : Bool) (k : Option ℕ) → (k ≡ Some n → n < 2 ^ 32) → cond b None k ≡ Some n → n < 2 ^ 32
    if_small true k h e = absurd (none_some e)
    if_small false k h e = h e

module _ {V W : Type 0} (o : Sets V) (p : Sets W) (laws : AreLawful o) (wide_laws : AreLawful p) (lower : (a : V) (b : W) → ((v : ℕ) → o.has a v ≡ true → p.has b v ≡ true) → p.lo b ≤ o.lo a) (upper : (a : V) (b : W) → ((v : ℕ) → o.has a v ≡ true → p.has b v ≡ true) → o.hi a ≤ p.hi b) where
  -- a set that lies in another has no wider bounds
  bounds_lie : (x : Option V) (y : Option W) → ((v : ℕ) → HasIn o x v → HasIn p y v) → (x ≡ None → ⊥) → LiesIn (bounds o x) (bounds p y)
  bounds_lie None y h full = absurd (full refl)
  bounds_lie (Some a) None h full = let one = laws.some a in absurd (h one.0 one.1)
  bounds_lie (Some a) (Some b) h full =
      elim (exact_cases p wide_laws b) [
        | inr (v, e) ↦
            let same = laws.is_exact a v (λ u k. wide_laws.as_exact b v u e (h u k)) in
            let x = exact_bounds p wide_laws b v e in
            let y = exact_bounds o laws a v same in
            (rw (x.0, y.0) (omega arith), rw (x.1, y.1) (omega arith))
        | inl wide ↦
            let x = wide_bounds p wide_laws b wide in
            elim (exact_cases o laws a) [
              | inr (u, e) ↦ let y = exact_bounds o laws a u e in let c = wide_laws.bounds b u (h u (only_in o laws a u e)) in (rw (x.0, y.0) c.0, rw (x.1, y.1) c.1)
              | inl wide' ↦ let y = wide_bounds o laws a wide' in (rw (x.0, y.0) (lower a b h), rw (x.1, y.1) (upper a b h))
            ]
      ]

module _ {V W : Type 0} (S : Setting V) (o : Sets W) (m : Moves W) (laws : HasLaws S) (wide_laws : HasLaws (by_other_sets S o m)) (finer : IsFiner (kind S.sets S.moves) (kind o m)) where
  abbrev T : Setting W
  T = by_other_sets S o m

  module _ (K : Knowledge) (words : HasWords K) (quiet : IsQuiet S K) where
    within : (p r v : ℕ) → HasIn S.sets (range (way_of S) K p r) v → HasIn o (range (way_of T) K p r) v
    within p r v h = sets_within (way_of S) (way_of T) laws.sets wide_laws.sets finer refl K (fact_small K words) p r v h

    value_of : (x : Option V) → (x ≡ None → ⊥) → (v : ℕ) × HasIn S.sets x v
    value_of None full = absurd (full refl)
    value_of (Some a) full = laws.sets.some a

    -- what is quiet is quiet with wider sets
    wide_quiet : IsQuiet T K
    wide_quiet = record {
      full = λ p r early in_file e. let one = value_of (range (way_of S) K p r) (quiet.full p r early in_file) in absurd (rw e at (within p r one.0 one.1));
      right = λ i h. quiet.right i (record { row = h.row; is_row = h.is_row; wrong = h.wrong });
    }

    ranges_lie : (p r : ℕ) → p ≤ S.legs.count → LiesIn (register_range S K p r) (register_range T K p r)
    ranges_lie p r early =
        elim (cases_lt r 32) [
          | inl in_file ↦ rw (register_range_is S K p r in_file, register_range_is T K p r in_file) (bounds_lie S.sets o laws.sets wide_laws.sets finer.lower finer.upper (range (way_of S) K p r) (range (way_of T) K p r) (within p r) (quiet.full p r early in_file))
          | inr past ↦ rw (register_range_past S K p r past, register_range_past T K p r past) (omega arith, omega arith)
        ]

    tables : (byte : ℕ → ℕ → Option ℕ) (i : ℕ) → i < S.legs.count → TablesMore (register_known K) byte (register_range T K) (register_known K) byte (register_range S K) i
    tables byte i inside = record {
      registers = λ p r v e. e;
      bytes = λ p a v e. e;
      small = known_word K words;
      inside = λ w r v k e. absurd (none_some (sym k ∙ e));
      lies = λ w r. ranges_lie (point_of i w) r (point_early S i w inside);
    }

    seen_finer : (i : ℕ) → i < S.legs.count → KnowsMore (seen_at T K i) (seen_at S K i)
    seen_finer i inside = seen_more S.moments (register_known K) (λ p a. K p (Byte a)) (register_range T K) (register_known K) (λ p a. K p (Byte a)) (register_range S K) i (tables (λ p a. K p (Byte a)) i inside)

    registers_finer : (i : ℕ) → i < S.legs.count → KnowsMore (registers_at T K i) (registers_at S K i)
    registers_finer i inside = seen_more S.moments (register_known K) (λ p a. None) (register_range T K) (register_known K) (λ p a. None) (register_range S K) i (tables (λ p a. None) i inside)

    spared_finer : (i a : ℕ) → a < 2 ^ 32 → may_write T K i a ≡ false → may_write S K i a ≡ false
    spared_finer i a small e = of_row (S.legs.row i) refl e
      where
        of_row : (row : Option StepRow) → S.legs.row i ≡ row → touched_by T row (registers_at T K i) a ≡ false → touched_by S row (registers_at S K i) a ≡ false
        of_row None is e = refl
        of_row (Some row) is e =
            let inside = laws.legs.inside i row is in
            elim (cases_Bool (S.rules.touched row (registers_at S K i) S.image_end a)) [
              | inr no_touch ↦ no_touch
              | inl touch ↦ absurd (false≢true (sym e ∙ laws.rules.touched_less S.image_end row (registers_at T K i) (registers_at S K i) a (registers_at_lawful T K words i) (registers_at_lawful S K words i) (registers_finer i inside) small touch))
            ]

    carries_finer : (a p q : ℕ) → a < 2 ^ 32 → Carries T K (passage a p q) → Carries S K (passage a p q)
    carries_finer a p q small h = record { next = h.next; light = h.light; spared = λ i may_act. spared_finer i a small (h.spared i may_act) }

    single_finer : (p r v : ℕ) (set : W) → p ≤ S.legs.count → r < 32 → range (way_of T) K p r ≡ Some set → o.as_exact set ≡ Some v → (set' : V) × (range (way_of S) K p r ≡ Some set') × (S.sets.as_exact set' ≡ Some v)
    single_finer p r v set early in_file is only = of_set (range (way_of S) K p r) (quiet.full p r early in_file) (within p r)
      where
        of_set : (x : Option V) → (x ≡ None → ⊥) → ((u : ℕ) → HasIn S.sets x u → HasIn o (range (way_of T) K p r) u) → (set' : V) × (x ≡ Some set') × (S.sets.as_exact set' ≡ Some v)
        of_set None full h = absurd (full refl)
        of_set (Some a) full h = (a, refl, laws.sets.is_exact a v (λ u t. wide_laws.sets.as_exact set v u only (rw is at (h u t))))

    byte_address : (f : Fact) (a : ℕ) → IsCell f.cell → f.cell ≡ Byte a → a < 2 ^ 32
    byte_address f a cell is = subst IsCell is cell

    carried_finer : (f : Fact) → IsCell f.cell → IsCarried T K f → IsCarried S K f
    carried_finer f cell (last_byte a p c e) = last_byte a p c e
    carried_finer f cell (onward a p q is c h e) = onward a p q is c (carries_finer a p q (byte_address f a cell c) h) e
    carried_finer f cell (back a p q is c h e) = back a p q is c (carries_finer a p q (byte_address f a cell c) h) e

    follows_finer : (f : Fact) → IsInstant S f.cell f.point → IsCell f.cell → Follows T K f → Follows S K f
    follows_finer f early cell (last_value r p c e) = last_value r p c e
    follows_finer f early cell (kept_onward i r row is p c kept e) = kept_onward i r row is p c kept e
    follows_finer f early cell (kept_back i r row is p c kept e) = kept_back i r row is p c kept e
    follows_finer f early cell (carried h) = carried (carried_finer f cell h)
    follows_finer f early cell (inferred i row d is h p c v) =
        let inside = laws.legs.inside i row is in
        inferred i row d is (inferred_more S.rules laws.rules row (seen_at T K i) (seen_at S K i) d (seen_at_lawful T K words i) (seen_at_lawful S K words i) (seen_finer i inside) h) p c v
    follows_finer f early cell (only_value r set c is only) =
        let named : (0 < r) × (r < 32) = subst IsCell c cell in
        let early' : f.point ≤ S.legs.count = subst (λ (x : Cell). IsInstant S x f.point) c early in
        let next = single_finer f.point r f.value set early' named.1 is only in
        only_value r next.0 c next.1 next.2

    -- what follows in one step with wider sets follows
    pub concludes_finer : (f : Fact) → Concludes T K f → Concludes S K f
    concludes_finer f h = record { early = h.early; cell = h.cell; word = h.word; by = follows_finer f h.early h.cell h.by }

  module _ (es : List Entry) (tracked : ℕ → Bool) (ended : HasEnded S es tracked) where
    abbrev L : Knowledge
    L = known_at_end S es tracked

    end_words : HasWords L
    end_words p r v e = words_of (facts_of es) (trace_words S es ended.trace) p r v e

    end_quiet : IsQuiet S L
    end_quiet = quiet_same S (told (facts_of es)) L (λ p r. refl) ended.quiet

    -- each fact of a derivation with wider sets is known at the end
    known : (fs : List Fact) → Derivation T fs → (f : Fact) → In fs f → L f.point f.cell ≡ Some f.value
    known [] d f h = absurd h
    known (g ∷ gs) d f (inl e) =
        let older : Extends (told gs) L = λ p c v t. known gs d.0 (record { point = p; cell = c; value = v }) (told_in gs p c v t) in
        let wide = Concludes_more T wide_laws (told gs) L older end_words (wide_quiet L end_words end_quiet) g d.2 in
        rw e (known_closed S laws es ended.trace ended.quiet tracked ended.closed g (concludes_finer L end_words end_quiet g wide))
    known (g ∷ gs) d f (inr h) = known gs d.0 f h

    pub report_finer : (K : Knowledge) → IsReport T K → Extends K L
    report_finer K report p c v e =
        let x = (report.exact (record { point = p; cell = c; value = v })).0 e in
        known x.0 x.1 (record { point = p; cell = c; value = v }) x.2
