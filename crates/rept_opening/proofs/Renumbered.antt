-- A report doesn't hang on the numbers of moments: with other numbers that stand for the same
-- moments it is the same report.
use Rattle.std.proofs.Common.{◌≡◌, ◌≢◌, ◌↔◌, ℕ, ◌+◌, ◌≤◌, ◌&&◌, eqb, leb, cond, Bool, true, false, List, [], ◌∷◌, Contains, Option, Some, None, inl, inr, refl, sym, ap, ◌∙◌, subst, arith}
use Rattle.std.proofs.lemmas.Bool.{cases_Bool, cases_eq, cond-true, cond-false, eq-eqb, ne_eqb, le-leb, leb-true, false≢true}
use mathlib.Core.Path.{fun_ext}
use Rattle.rept_isa.specs.declared.row.StepRow.{StepRow}
use Rattle.rept_partial.specs.declared.range.Range.{Range}
use Rattle.rept_reason.specs.declared.fact.Fact.{Fact}
use Rattle.rept_reason.specs.declared.fact.Cell.{Cell}
use Rattle.rept_reason.specs.declared.fact.Cell.TheVariants.{Register, Byte}
use Rattle.rept_reason.specs.Facts.{Knowledge, In, told, speaks, same_cell, register_known}
use Rattle.rept_reason.specs.declared.view.inferred.When.{When}
use Rattle.rept_reason.specs.declared.view.inferred.When.TheVariants.{Before, After}
use Rattle.rept_reason.specs.declared.view.inferred.Conclusion.{Conclusion}
use Rattle.rept_reason.specs.View.Seen.{Seen}
use Rattle.rept_span.specs.Ranges.{range}
use Rattle.rept_report.specs.declared.conflict.ConflictKind.{ConflictKind}
use Rattle.rept_report.specs.declared.conflict.ConflictKind.TheVariants.{TwoValues, EmptyRange, WrongTurn}
use Rattle.rept_report.specs.Closure.{Derivation, InClosure, ClosureHas, IsConsistent, IsReport}
use Rattle.rept_report.specs.Conclusions.{IsCarried, Follows, Concludes}
use Rattle.rept_report.specs.Conclusions.IsCarried.{last_byte, onward, back}
use Rattle.rept_report.specs.Conclusions.Follows.{last_value, kept_onward, kept_back, carried, inferred, only_value}
use Rattle.rept_report.specs.Conflicts.{RegistersAgree, IsConflict, HasNoConflict}
use Rattle.rept_report.specs.Knowing.{KnowSameRegisters}
use Rattle.rept_report.specs.Moments.{Moments}
use Rattle.rept_report.specs.Setting.{Setting, IsInstant, IsLast, way_of}
use Rattle.rept_report.specs.Spots.{passage}
use Rattle.rept_report.specs.Views.{point_of, moment_of, instant_of, known_or, register_range, seen_at, Carries}
use Rattle.rept_report.proofs.Registers.{range_same, may_write_same, seen_range_same, empty_same, wrong_same}

-- the same run, with these moments
abbrev pub with_moments : {W : Type 0} → Setting W → Moments → Setting W
with_moments S M = record {
  sets = S.sets;
  moves = S.moves;
  rules = S.rules;
  legs = S.legs;
  moments = M;
  last = S.last;
  dump = S.dump;
  image_end = S.image_end;
}

-- each number of the one numbering has one of the other that stands for the same moment
pub record Renumbers {W : Type 0} (S : Setting W) (M N : Moments) (to from : ℕ → ℕ) : Type 0 where
  pub before : (i : ℕ) (row : StepRow) → S.legs.row i ≡ Some row → (M.before i ≤ M.end) × (to (M.before i) ≡ N.before i)
  pub after : (i : ℕ) (row : StepRow) → S.legs.row i ≡ Some row → (M.after i ≤ M.end) × (to (M.after i) ≡ N.after i)
  pub end : to M.end ≡ N.end
  pub inside : (m : ℕ) → m ≤ M.end → to m ≤ N.end
  pub returns : (m : ℕ) → m ≤ M.end → from (to m) ≡ m
  pub next : (m w : ℕ) → M.next m w ≡ true → (m ≤ M.end) × (w ≤ M.end)
  pub carries : (K : Knowledge) (a m w : ℕ) → Carries (with_moments S M) K (passage a m w) → Carries (with_moments S N) K (passage a (to m) (to w))

-- where a fact stands by the other numbers
abbrev pub moved : (ℕ → ℕ) → Cell → ℕ → ℕ
moved to (Register r) p = p
moved to (Byte a) p = to p

abbrev pub fact_by : (ℕ → ℕ) → Fact → Fact
fact_by to f = record { point = moved to f.cell f.point; cell = f.cell; value = f.value }

abbrev pub facts_by : (ℕ → ℕ) → List Fact → List Fact
facts_by to [] = []
facts_by to (f ∷ fs) = fact_by to f ∷ facts_by to fs

in_by : (to : ℕ → ℕ) (fs : List Fact) (f : Fact) → In fs f → In (facts_by to fs) (fact_by to f)
in_by to [] f h = absurd h
in_by to (g ∷ gs) f (inl e) = inl (ap (fact_by to) e)
in_by to (g ∷ gs) f (inr h) = inr (in_by to gs f h)

by_in : (to : ℕ → ℕ) (fs : List Fact) (f : Fact) → In (facts_by to fs) f → (g : Fact) × In fs g × (f ≡ fact_by to g)
by_in to [] f h = absurd h
by_in to (g ∷ gs) f (inl e) = (g, inl refl, e)
by_in to (g ∷ gs) f (inr h) = let rest = by_in to gs f h in (rest.0, inr rest.1, rest.2)

abbrev seen_with : (When → ℕ → Option ℕ) → (When → ℕ → Option ℕ) → (When → ℕ → Range) → Seen
seen_with register byte range = record { register = register; byte = byte; range = range }

and_off : (b : Bool) → (b && false) ≡ false
and_off true = refl
and_off false = refl

module _ {W : Type 0} (S : Setting W) (M N : Moments) (to from : ℕ → ℕ) (forth : Renumbers S M N to from) where
  abbrev one : Setting W
  one = with_moments S M

  abbrev other : Setting W
  other = with_moments S N

  -- each fact stands at a point or a moment
  abbrev AllEarly : List Fact → Type 0
  AllEarly [] = Unit {0}
  AllEarly (f ∷ fs) = IsInstant one f.cell f.point × AllEarly fs

  early_to : (c : Cell) (p : ℕ) → IsInstant one c p → IsInstant other c (moved to c p)
  early_to (Register r) p h = h
  early_to (Byte a) p h = forth.inside p h

  all_early : (fs : List Fact) → Derivation one fs → AllEarly fs
  all_early [] d = tt
  all_early (f ∷ fs) d = (d.2.early, all_early fs d.0)

  early_in : (fs : List Fact) → AllEarly fs → (f : Fact) → In fs f → IsInstant one f.cell f.point
  early_in [] h f x = absurd x
  early_in (g ∷ gs) h f (inl e) = subst (λ (k : Fact). IsInstant one k.cell k.point) (sym e) h.0
  early_in (g ∷ gs) h f (inr x) = early_in gs h.1 f x

  register_point : (f : Fact) (r : ℕ) → f.cell ≡ Register r → moved to f.cell f.point ≡ f.point
  register_point f r c = ap (λ (x : Cell). moved to x f.point) c

  byte_point : (f : Fact) (a : ℕ) → f.cell ≡ Byte a → moved to f.cell f.point ≡ to f.point
  byte_point f a c = ap (λ (x : Cell). moved to x f.point) c

  -- what is told of registers is the same
  told_registers : (fs : List Fact) → KnowSameRegisters (told fs) (told (facts_by to fs))
  told_registers [] p r = refl
  told_registers (f ∷ fs) p r = by (told_registers fs p r) f.cell
    where
      by : told fs p (Register r) ≡ told (facts_by to fs) p (Register r) → (c : Cell) → cond (eqb f.point p && same_cell c (Register r)) (Some f.value) (told fs p (Register r)) ≡ cond (eqb (moved to c f.point) p && same_cell c (Register r)) (Some f.value) (told (facts_by to fs) p (Register r))
      by rest (Register s) = ap (λ (o : Option ℕ). cond (eqb f.point p && same_cell (Register s) (Register r)) (Some f.value) o) rest
      by rest (Byte b) = cond-false (eqb f.point p && false) (Some f.value) (told fs p (Register r)) (and_off (eqb f.point p)) ∙ rest ∙ sym (cond-false (eqb (to f.point) p && false) (Some f.value) (told (facts_by to fs) p (Register r)) (and_off (eqb (to f.point) p)))

  -- numbers are the same before and after
  same_number : (m w : ℕ) → m ≤ M.end → w ≤ M.end → eqb m w ≡ eqb (to m) (to w)
  same_number m w early late =
      elim (cases_eq m w) [
        | inl same ↦ eq-eqb m w same ∙ sym (eq-eqb (to m) (to w) (ap to same))
        | inr ne ↦ ne_eqb m w ne ∙ sym (ne_eqb (to m) (to w) (λ e. ne (sym (forth.returns m early) ∙ ap from e ∙ forth.returns w late)))
      ]

  told_bytes : (fs : List Fact) → AllEarly fs → (m a : ℕ) → m ≤ M.end → told (facts_by to fs) (to m) (Byte a) ≡ told fs m (Byte a)
  told_bytes [] h m a early = refl
  told_bytes (f ∷ fs) h m a early = by (told_bytes fs h.1 m a early) f.cell h.0
    where
      by : told (facts_by to fs) (to m) (Byte a) ≡ told fs m (Byte a) → (c : Cell) → IsInstant one c f.point → cond (eqb (moved to c f.point) (to m) && same_cell c (Byte a)) (Some f.value) (told (facts_by to fs) (to m) (Byte a)) ≡ cond (eqb f.point m && same_cell c (Byte a)) (Some f.value) (told fs m (Byte a))
      by rest (Register s) at = cond-false (eqb f.point (to m) && false) (Some f.value) (told (facts_by to fs) (to m) (Byte a)) (and_off (eqb f.point (to m))) ∙ rest ∙ sym (cond-false (eqb f.point m && false) (Some f.value) (told fs m (Byte a)) (and_off (eqb f.point m)))
      by rest (Byte b) at =
          ap (λ (x : Bool). cond (x && eqb b a) (Some f.value) (told (facts_by to fs) (to m) (Byte a))) (sym (same_number f.point m at early))
          ∙ ap (λ (o : Option ℕ). cond (eqb f.point m && eqb b a) (Some f.value) o) rest

  -- what follows from the facts by the one follows from them by the other
  module _ (K L : Knowledge) (registers : KnowSameRegisters K L) (bytes : (m a : ℕ) → m ≤ M.end → L (to m) (Byte a) ≡ K m (Byte a)) where
    carries_to : (a m w : ℕ) → Carries one K (passage a m w) → Carries other L (passage a (to m) (to w))
    carries_to a m w h =
        let there = forth.carries K a m w h in
        record { next = there.next; light = there.light; spared = λ i may_act. sym (may_write_same other K L registers i a) ∙ there.spared i may_act }

    register_there : (p r : ℕ) → register_known K p r ≡ register_known L p r
    register_there p r = ap (λ (o : Option ℕ). cond (eqb r 0) (Some 0) o) (registers p r)

    byte_there : (i : ℕ) (row : StepRow) → S.legs.row i ≡ Some row → (w : When) (a : ℕ) → K (moment_of M i w) (Byte a) ≡ L (moment_of N i w) (Byte a)
    byte_there i row is Before a = let at = forth.before i row is in sym (bytes (M.before i) a at.0) ∙ ap (λ (m : ℕ). L m (Byte a)) at.1
    byte_there i row is After a = let at = forth.after i row is in sym (bytes (M.after i) a at.0) ∙ ap (λ (m : ℕ). L m (Byte a)) at.1

    seen_there : (i : ℕ) (row : StepRow) → S.legs.row i ≡ Some row → seen_at one K i ≡ seen_at other L i
    seen_there i row is =
        ap (λ (x : When → ℕ → Option ℕ). seen_with x (λ w a. K (moment_of M i w) (Byte a)) (λ w r. known_or (register_known K (point_of i w) r) (register_range S K (point_of i w) r))) (fun_ext (λ w. fun_ext (λ r. register_there (point_of i w) r)))
        ∙ ap (λ (x : When → ℕ → Option ℕ). seen_with (λ w r. register_known L (point_of i w) r) x (λ w r. known_or (register_known K (point_of i w) r) (register_range S K (point_of i w) r))) (fun_ext (λ w. fun_ext (λ a. byte_there i row is w a)))
        ∙ ap (λ (x : When → ℕ → Range). seen_with (λ w r. register_known L (point_of i w) r) (λ w a. L (moment_of N i w) (Byte a)) x) (fun_ext (λ w. fun_ext (λ r. seen_range_same S K L registers (point_of i w) r)))

    instant_to : (i : ℕ) (row : StepRow) → S.legs.row i ≡ Some row → (w : When) (c : Cell) → moved to c (instant_of M i w c) ≡ instant_of N i w c
    instant_to i row is w (Register r) = refl
    instant_to i row is Before (Byte a) = (forth.before i row is).1
    instant_to i row is After (Byte a) = (forth.after i row is).1

    carried_to : (f : Fact) → IsCarried one K f → IsCarried other L (fact_by to f)
    carried_to f (last_byte a p c e) = last_byte a (byte_point f a c ∙ ap to p ∙ forth.end) c e
    carried_to f (onward a p q is c h e) = onward a (to p) (to q) (byte_point f a c ∙ ap to is) c (carries_to a p q h) (bytes p a (forth.next p q h.next).0 ∙ e)
    carried_to f (back a p q is c h e) = back a (to p) (to q) (byte_point f a c ∙ ap to is) c (carries_to a p q h) (bytes q a (forth.next p q h.next).1 ∙ e)

    follows_to : (f : Fact) → Follows one K f → Follows other L (fact_by to f)
    follows_to f (last_value r p c e) =
        let here = sym (register_point f r c) in
        last_value r (subst (λ (q : ℕ). IsLast other q) here p) c (subst (λ (q : ℕ). S.last q r ≡ Some f.value) here e)
    follows_to f (kept_onward i r row is p c kept e) = kept_onward i r row is (register_point f r c ∙ p) c kept (sym (registers i r) ∙ e)
    follows_to f (kept_back i r row is p c kept e) = kept_back i r row is (register_point f r c ∙ p) c kept (sym (registers (i + 1) r) ∙ e)
    follows_to f (carried h) = carried (carried_to f h)
    follows_to f (inferred i row d is h p c v) =
        inferred i row d is (subst (λ (s : Seen). Contains (S.rules.infer row s) d) (seen_there i row is) h)
        (ap (moved to f.cell) p ∙ ap (λ (x : Cell). moved to x (instant_of M i d.when d.cell)) c ∙ instant_to i row is d.when d.cell) c v
    follows_to f (only_value r set c is only) = only_value r set c (subst (λ (q : ℕ). range (way_of S) L q r ≡ Some set) (sym (register_point f r c)) (sym (range_same S K L registers f.point r) ∙ is)) only

    concludes_to : (f : Fact) → Concludes one K f → Concludes other L (fact_by to f)
    concludes_to f h = record { early = early_to f.cell f.point h.early; cell = h.cell; word = h.word; by = follows_to f h.by }

  -- facts that contradict each other by the one do by the other
  agree_to : (fs : List Fact) → RegistersAgree fs → RegistersAgree (facts_by to fs)
  agree_to fs agree f g r one_in other_in same c d =
      let x = by_in to fs f one_in in
      let y = by_in to fs g other_in in
      let cx : x.0.cell ≡ Register r = sym (ap (λ (k : Fact). k.cell) x.2) ∙ c in
      let cy : y.0.cell ≡ Register r = sym (ap (λ (k : Fact). k.cell) y.2) ∙ d in
      let at : x.0.point ≡ y.0.point = sym (register_point x.0 r cx) ∙ sym (ap (λ (k : Fact). k.point) x.2) ∙ same ∙ ap (λ (k : Fact). k.point) y.2 ∙ register_point y.0 r cy in
      ap (λ (k : Fact). k.value) x.2 ∙ agree x.0 y.0 r x.1 y.1 at cx cy ∙ sym (ap (λ (k : Fact). k.value) y.2)

  conflict_to : (fs : List Fact) (kind : ConflictKind) → IsConflict one fs kind → (k : ConflictKind) × IsConflict other (facts_by to fs) k
  conflict_to fs (TwoValues p c v w) h = (TwoValues (moved to c p) c v w, (h.0, in_by to fs (record { point = p; cell = c; value = v }) h.1, in_by to fs (record { point = p; cell = c; value = w }) h.2))
  conflict_to fs (EmptyRange p r) h = (EmptyRange p r, (agree_to fs h.0, empty_same S (told fs) (told (facts_by to fs)) (told_registers fs) p r h.1))
  conflict_to fs (WrongTurn i) h =
      let x = wrong_same S (told fs) (told (facts_by to fs)) (told_registers fs) i (record { row = h.row; is_row = h.is_row; wrong = h.wrong }) in
      (WrongTurn i, record { row = x.row; is_row = x.is_row; wrong = x.wrong })

  facts_return : (fs : List Fact) → AllEarly fs → facts_by from (facts_by to fs) ≡ fs
  facts_return [] h = refl
  facts_return (f ∷ fs) h = ap (λ (g : Fact). g ∷ facts_by from (facts_by to fs)) (fact_return f h.0) ∙ ap (λ (gs : List Fact). f ∷ gs) (facts_return fs h.1)
    where
      point_return : (c : Cell) (p : ℕ) → IsInstant one c p → moved from c (moved to c p) ≡ p
      point_return (Register r) p early = refl
      point_return (Byte a) p early = forth.returns p early

      fact_return : (f : Fact) → IsInstant one f.cell f.point → fact_by from (fact_by to f) ≡ f
      fact_return f early = ap (λ (p : ℕ). let g : Fact = record { point = p; cell = f.cell; value = f.value } in g) (point_return f.cell f.point early)

module _ {W : Type 0} (S : Setting W) (M N : Moments) (to from : ℕ → ℕ) (forth : Renumbers S M N to from) (back_too : Renumbers S N M from to) where
  derived_to : (fs : List Fact) → Derivation (with_moments S M) fs → Derivation (with_moments S N) (facts_by to fs)
  derived_to [] d = tt
  derived_to (f ∷ fs) d =
      let early = all_early S M N to from forth fs d.0 in (
        derived_to fs d.0,
        (λ kind h. let x = conflict_to S N M from to back_too (facts_by to fs) kind h in d.1 x.0 (subst (λ (gs : List Fact). IsConflict (with_moments S M) gs x.0) (facts_return S M N to from forth fs early) x.1)),
        concludes_to S M N to from forth (told fs) (told (facts_by to fs)) (told_registers S M N to from forth fs) (λ m a few. told_bytes S M N to from forth fs early m a few) f d.2,
      )

  pub closure_to : (f : Fact) → InClosure (with_moments S M) f → InClosure (with_moments S N) (fact_by to f)
  closure_to f h = (facts_by to h.0, derived_to h.0 h.1, in_by to h.0 f h.2)

  pub conflicts_to : (kind : ConflictKind) → ClosureHas (with_moments S M) kind → (k : ConflictKind) × ClosureHas (with_moments S N) k
  conflicts_to kind h = let x = conflict_to S M N to from forth h.0 kind h.2 in (x.0, (facts_by to h.0, derived_to h.0 h.1, x.1))

  pub early_closure : (f : Fact) → InClosure (with_moments S M) f → IsInstant (with_moments S M) f.cell f.point
  early_closure f h = early_in S M N to from forth h.0 (all_early S M N to from forth h.0 h.1) f h.2

-- what is known, by the other numbers
abbrev pub known_by : (end : ℕ) → (ℕ → ℕ) → Knowledge → Knowledge
known_by end from K p (Register r) = K p (Register r)
known_by end from K m (Byte a) = cond (leb m end) (K (from m) (Byte a)) None

module _ {W : Type 0} (S : Setting W) (M N : Moments) (to from : ℕ → ℕ) (forth : Renumbers S M N to from) (back_too : Renumbers S N M from to) (K : Knowledge) (report : IsReport (with_moments S M) K) where
  value_none : {v : ℕ} → None ≡ Some v → ⊥
  value_none e = cc

  into : (p : ℕ) (c : Cell) (v : ℕ) → known_by N.end from K p c ≡ Some v → InClosure (with_moments S N) (record { point = p; cell = c; value = v })
  into p (Register r) v e = closure_to S M N to from forth back_too (record { point = p; cell = Register r; value = v }) ((report.exact (record { point = p; cell = Register r; value = v })).0 e)
  into m (Byte a) v e =
      elim (cases_Bool (leb m N.end)) [
        | inr late ↦ absurd (value_none (sym (cond-false (leb m N.end) (K (from m) (Byte a)) None late) ∙ e))
        | inl early ↦
            let few = leb-true m N.end early in
            let its = sym (cond-true (leb m N.end) (K (from m) (Byte a)) None early) ∙ e in
            let there = closure_to S M N to from forth back_too (record { point = from m; cell = Byte a; value = v }) ((report.exact (record { point = from m; cell = Byte a; value = v })).0 its) in
            subst (λ (p : ℕ). InClosure (with_moments S N) (record { point = p; cell = Byte a; value = v })) (back_too.returns m few) there
      ]

  out_of : (p : ℕ) (c : Cell) (v : ℕ) → InClosure (with_moments S N) (record { point = p; cell = c; value = v }) → known_by N.end from K p c ≡ Some v
  out_of p (Register r) v h = (report.exact (record { point = p; cell = Register r; value = v })).1 (closure_to S N M from to back_too forth (record { point = p; cell = Register r; value = v }) h)
  out_of m (Byte a) v h =
      let few : m ≤ N.end = early_closure S N M from to back_too forth (record { point = m; cell = Byte a; value = v }) h in
      cond-true (leb m N.end) (K (from m) (Byte a)) None (le-leb m N.end few)
      ∙ (report.exact (record { point = from m; cell = Byte a; value = v })).1 (closure_to S N M from to back_too forth (record { point = m; cell = Byte a; value = v }) h)

  pub report_by : IsReport (with_moments S N) (known_by N.end from K)
  report_by = record {
    exact = λ f. (λ e. into f.point f.cell f.value e, λ h. out_of f.point f.cell f.value h);
    consistent = λ kind h. let x = conflicts_to S N M from to back_too forth kind h in report.consistent x.0 x.1;
  }
