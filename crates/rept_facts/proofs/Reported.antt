-- An analysis that has ended is the report.
use Rattle.std.proofs.Common.{◌≡◌, ℕ, zero, suc, ◌+◌, ◌<◌, ◌≤◌, true, false, eqb, List, [], ◌∷◌, length, Some, inl, inr, refl, sym, subst, ◌∙◌, arith, Contains, slice_get}
use Rattle.std.proofs.lemmas.Bool.{cases_eq, eq-eqb, ne_eqb, or_left, or_right, false≢true}
use Rattle.rept_isa.specs.declared.row.StepRow.{StepRow}
use Rattle.rept_reason.specs.declared.fact.Fact.{Fact}
use Rattle.rept_reason.specs.declared.fact.Cell.{Cell}
use Rattle.rept_reason.specs.declared.fact.Cell.TheVariants.{Register, Byte}
use Rattle.rept_reason.specs.Facts.{Knowledge, IsCell, told}
use Rattle.rept_report.specs.Setting.{Setting, HasLaws, IsInstant}
use Rattle.rept_report.specs.Spots.{passage}
use Rattle.rept_report.specs.Knowing.{KnowSameRegisters}
use Rattle.rept_report.specs.Views.{may_write, Carries}
use Rattle.rept_report.specs.Conclusions.{IsCarried, Follows, Concludes}
use Rattle.rept_report.specs.Conclusions.IsCarried.{last_byte, onward, back}
use Rattle.rept_report.specs.Conclusions.Follows.{last_value, kept_onward, kept_back, carried, inferred, only_value}
use Rattle.rept_report.specs.Conflicts.{IsQuiet}
use Rattle.rept_report.specs.Closure.{IsReport}
use Rattle.rept_report.specs.Log.{oldest}
use Rattle.rept_report.specs.Implied.{with_implied, IsListed, IsClosed}
use Rattle.rept_report.proofs.Places.{oldest_all}
use Rattle.rept_report.proofs.Registers.{may_write_same, range_same}
use Rattle.rept_report.proofs.Implied.{trace_report}
use Rattle.rept_facts.specs.State.{AnalysisState, all_known, along}
use Rattle.rept_facts.specs.Inferring.{IsTracked, IsSettled, IsRowInferred}
use Rattle.rept_facts.specs.Kept.{is_among, answers, IsKept}
use Rattle.rept_facts.proofs.Learning.{trace_known, known_words}
use Rattle.rept_facts.proofs.Following.{seen_inferred}

pub among_contains : (xs : List ℕ) (a : ℕ) → is_among xs a ≡ true → Contains xs a
among_contains [] a e = absurd (false≢true e)
among_contains (x ∷ xs) a e =
    elim (cases_eq x a) [
      | inl same ↦ (0, omega arith, same)
      | inr differs ↦
          let later = among_contains xs a (rw (ne_eqb x a differs) at e) in
          let lt = later.1 in
          (suc later.0, omega (arith, lt), later.2)
    ]

pub contains_among : (xs : List ℕ) (a : ℕ) → Contains xs a → is_among xs a ≡ true
contains_among [] a h = let lt = h.1 in absurd (omega (arith, lt))
contains_among (x ∷ xs) a (zero, lt, e) = or_left (eqb x a) (is_among xs a) (eq-eqb x a e)
contains_among (x ∷ xs) a (suc k, lt, e) = or_right (eqb x a) (is_among xs a) (contains_among xs a (k, omega (arith, lt), e))

row_in : (xs : List StepRow) (i : ℕ) → i < length xs → (row : StepRow) × (slice_get xs i ≡ Some row)
row_in [] i h = absurd (omega (arith, h))
row_in (x ∷ xs) zero h = (x, refl)
row_in (x ∷ xs) (suc i) h = row_in xs i (omega (arith, h))

module _ {W : Type 0} (s : AnalysisState W) (laws : HasLaws (along s.path)) (kept : IsKept s) (settled : IsSettled s) where
  abbrev S : Setting W
  S = along s.path

  abbrev K : Knowledge
  K = all_known s

  whole : oldest s.filled s.known.log ≡ s.known.log
  whole = let all = settled.filled in oldest_all s.filled s.known.log (omega (arith, all))

  log_same : KnowSameRegisters (told (oldest s.filled s.known.log)) K
  log_same p r = rw whole refl

  spared : (i a : ℕ) → may_write S K i a ≡ false → may_write S (told (oldest s.filled s.known.log)) i a ≡ false
  spared i a e = may_write_same S (told (oldest s.filled s.known.log)) K log_same i a ∙ e

  carries_same : (a p q : ℕ) → Carries S K (passage a p q) → Carries S (told (oldest s.filled s.known.log)) (passage a p q)
  carries_same a p q h = record { next = h.next; light = h.light; spared = λ i may_act. spared i a (h.spared i may_act) }

  row_at : (i : ℕ) (row : StepRow) → s.path.given.legs.row i ≡ Some row → IsRowInferred row i s
  row_at i row found = settled.inferred.rows i (laws.legs.inside i row found) row found

  moved : (f : Fact) (p : ℕ) (c : Cell) → f.point ≡ p → f.cell ≡ c → K p c ≡ Some f.value → K f.point f.cell ≡ Some f.value
  moved f p c ep ec h = rw (ep, ec) h

  register_cell : (f : Fact) (r : ℕ) → IsCell f.cell → f.cell ≡ Register r → (0 < r) × (r < 32)
  register_cell f r cell e = subst IsCell e cell

  is_tracked : (f : Fact) (a : ℕ) → IsListed (is_among s.known.store.tracked) f.cell → f.cell ≡ Byte a → IsTracked a s
  is_tracked f a listed e = among_contains s.known.store.tracked a (subst (λ (c : Cell). IsListed (is_among s.known.store.tracked) c) e listed)

  carried_known : (f : Fact) → IsListed (is_among s.known.store.tracked) f.cell → IsCarried S K f → K f.point f.cell ≡ Some f.value
  carried_known f listed (last_byte a p c e) = moved f _ (Byte a) p c (settled.inferred.bytes a (is_tracked f a listed c) f.value e)
  carried_known f listed (onward a p q is c h e) = moved f q (Byte a) is c ((settled.inferred.carried a p q (is_tracked f a listed c)).onward f.value (carries_same a p q h) e)
  carried_known f listed (back a p q is c h e) = moved f p (Byte a) is c ((settled.inferred.carried a p q (is_tracked f a listed c)).back f.value (carries_same a p q h) e)

  closed_conclusions : (f : Fact) → IsListed (is_among s.known.store.tracked) f.cell → Concludes S K f → K f.point f.cell ≡ Some f.value
  closed_conclusions f listed h = go h.by
    where
      go : Follows S K f → K f.point f.cell ≡ Some f.value
      go (last_value r p c e) = let cell = register_cell f r h.cell c in moved f f.point (Register r) refl c (settled.inferred.last r cell.1 f.point f.value p cell.0 e)
      go (kept_onward i r row found p c kept' e) = let cell = register_cell f r h.cell c in moved f (i + 1) (Register r) p c (((row_at i row found).registers r cell.0 cell.1 kept').onward f.value e)
      go (kept_back i r row found p c kept' e) = let cell = register_cell f r h.cell c in moved f i (Register r) p c (((row_at i row found).registers r cell.0 cell.1 kept').back f.value e)
      go (carried x) = carried_known f listed x
      go (inferred i row d found x p c v) = rw (p, c, v) ((row_at i row found).inferred d (seen_inferred s laws (known_words s kept) i row found (laws.legs.inside i row found) d x))
      go (only_value r set c is only) =
          let cell = register_cell f r h.cell c in
          let early : f.point ≤ s.path.given.legs.count = subst (λ (x : Cell). IsInstant S x f.point) c h.early in
          moved f f.point (Register r) refl c (settled.inferred.singles f.point (omega (arith, early)) r cell.1 set f.value (settled.fitted f.point early r cell.1 ∙ range_same S (told (oldest s.filled s.known.log)) K log_same f.point r ∙ is) only cell.0)

  pub settled_closed : IsClosed S K (is_among s.known.store.tracked)
  settled_closed = record {
    conclusions = closed_conclusions;
    row_bytes = λ i a row found h. contains_among s.known.store.tracked a ((row_at i row found).tracked a (record { base_register = h.base_register; base = h.base; k = h.k; read = h.read; base_known = h.base_known; below_places = h.below_places; below_four = h.below_four; address = h.address }));
    listed = λ p a v e. contains_among s.known.store.tracked a (kept.listed p a v e);
  }

  pub settled_report : IsReport S (answers s)
  settled_report =
      let same = trace_known s kept in
      let quiet = subst (λ (J : Knowledge). IsQuiet S J) (sym same) settled.quiet in
      let closed = subst (λ (J : Knowledge). IsClosed S J (is_among s.known.store.tracked)) (sym same) settled_closed in
      subst (λ (J : Knowledge). IsReport S (with_implied S J (is_among s.known.store.tracked))) same (trace_report S laws kept.traced.entries kept.traced.trace quiet (is_among s.known.store.tracked) closed)
