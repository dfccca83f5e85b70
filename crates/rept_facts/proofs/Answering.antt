-- What an analysis that has ended answers of registers, ranges, bytes and writers.
use Rattle.std.proofs.Common.{◌≡◌, ℕ, zero, suc, ◌<◌, ◌≤◌, ◌^◌, nat_lt, nat_le, if◌then◌else◌, Bool, true, false, ◌&&◌, List, [], ◌∷◌, Option, Some, None, inl, inr, refl, sym, ap, ◌∙◌, arith}
use mathlib.Core.Path.{fun_ext}
use Rattle.std.proofs.lemmas.Bool.{cases_eq, cases_Bool, cond-true, cond-false, false_from_ne_true, false≢true}
use Rattle.rept_isa.specs.declared.row.StepRow.{StepRow}
use Rattle.rept_reason.specs.declared.fact.Fact.{Fact}
use Rattle.rept_reason.specs.declared.fact.Cell.{Cell}
use Rattle.rept_reason.specs.declared.fact.Cell.TheVariants.{Byte}
use Rattle.rept_reason.specs.Facts.{Knowledge, IsCell, In, told, register_known}
use Rattle.rept_span.specs.Ranges.{range}
use Rattle.rept_span.specs.Filled.{entry_at}
use Rattle.rept_reason.specs.View.Seen.{Seen}
use Rattle.rept_report.specs.declared.writer.Writer.{Writer}
use Rattle.rept_report.specs.declared.writer.Writer as writers
use Rattle.rept_report.specs.Setting.{Setting, HasLaws, IsInstant, way_of}
use Rattle.rept_report.specs.Knowing.{KnowSameRegisters}
use Rattle.rept_report.specs.Views.{may_write, is_sure, touched_by, sure_by, registers_at, Carries}
use Rattle.rept_report.specs.Closure.{Derivation, InClosure}
use Rattle.rept_report.specs.Log.{oldest}
use Rattle.rept_report.specs.Implied.{all_past, implied}
use Rattle.rept_report.specs.Spots.{spot, passage}
use Rattle.rept_report.specs.Writers.{IsCandidate, IsLastCandidate, is_certain, IsWriter}
use Rattle.rept_report.proofs.Told.{none_some}
use Rattle.rept_report.proofs.Places.{oldest_all}
use Rattle.rept_report.proofs.Registers.{range_same, may_write_same, is_sure_same}
use Rattle.rept_report.proofs.Implied.{ImpliedAt, implied_at, implied_next, implied_carries}
use Rattle.rept_facts.specs.State.{AnalysisState, all_known, Subject, along}
use Rattle.rept_facts.specs.Moments.{moment}
use Rattle.rept_report.specs.Why.{fact_of}
use Rattle.rept_facts.specs.Inferring.{Knows, IsTracked, IsFitted, IsSettled}
use Rattle.rept_facts.specs.Kept.{is_among, register_answer, answers, IsFinished}
use Rattle.rept_facts.proofs.Following.{moment_is}
use Rattle.rept_facts.proofs.Reported.{among_contains, contains_among}

none_unless : (x : Option ℕ) → ((v : ℕ) → x ≡ Some v → ⊥) → x ≡ None
none_unless None h = refl
none_unless (Some v) h = absurd (h v refl)

-- what a derivation says is on the path, and on a cell
pub derived_early : {W : Type 0} (S : Setting W) (fs : List Fact) → Derivation S fs → (f : Fact) → In fs f → IsInstant S f.cell f.point × IsCell f.cell
derived_early S [] d f h = absurd h
derived_early S (g ∷ gs) d f (inl e) = rw e (d.2.early, d.2.cell)
derived_early S (g ∷ gs) d f (inr h) = derived_early S gs d.0 f h

pub closure_early : {W : Type 0} (S : Setting W) (f : Fact) → InClosure S f → IsInstant S f.cell f.point × IsCell f.cell
closure_early S f h = derived_early S h.0 h.1 f h.2

-- whether a row is sure, by sets that are those of some of the facts
pub sure_is : {W : Type 0} (s : AnalysisState W) (i : ℕ) → i < s.path.given.legs.count → IsFitted s → (row : StepRow) → s.path.given.legs.row i ≡ Some row → s.path.rules.sure row (moment s.path.sets (oldest s.filled s.known.log) s.spans i) ≡ is_sure (along s.path) (told (oldest s.filled s.known.log)) i
sure_is s i inside fitted row found = rw found (ap (λ (v : Seen). s.path.rules.sure row v) (moment_is s i inside fitted))

-- where no row leads from a point, nothing is written
pub none_sure : {W : Type 0} (S : Setting W) (K : Knowledge) (i : ℕ) → S.legs.row i ≡ None → is_sure S K i ≡ false
none_sure S K i none = ap (λ (o : Option StepRow). sure_by S o (registers_at S K i)) none

pub none_may : {W : Type 0} (S : Setting W) (K : Knowledge) (i a : ℕ) → S.legs.row i ≡ None → may_write S K i a ≡ false
none_may S K i a none = ap (λ (o : Option StepRow). touched_by S o (registers_at S K i) a) none

-- what is said of a writer looks at registers alone
module _ {W : Type 0} (S : Setting W) (K L : Knowledge) (same : KnowSameRegisters K L) (p a : ℕ) where
  candidate_same : (k : ℕ) → IsCandidate S K (spot p a) k → IsCandidate S L (spot p a) k
  candidate_same k h = record { may = sym (may_write_same S K L same k a) ∙ h.may; reaches = h.reaches }

  same_candidate : (k : ℕ) → IsCandidate S L (spot p a) k → IsCandidate S K (spot p a) k
  same_candidate k h = record { may = may_write_same S K L same k a ∙ h.may; reaches = h.reaches }

  last_same : (j : ℕ) → IsLastCandidate S K (spot p a) j → IsLastCandidate S L (spot p a) j
  last_same j h = record { one = candidate_same j h.one; after = λ k c other. h.after k (same_candidate k c) other; untraced = h.untraced }

  same_last : (j : ℕ) → IsLastCandidate S L (spot p a) j → IsLastCandidate S K (spot p a) j
  same_last j h = record { one = same_candidate j h.one; after = λ k c other. h.after k (candidate_same k c) other; untraced = h.untraced }

  certain_same : (j : ℕ) (b : Bool) → is_certain S K (spot p a) j ≡ b → is_certain S L (spot p a) j ≡ b
  certain_same j b e = ap (λ (x : Bool). x && S.moments.past j p) (sym (is_sure_same S K L same j)) ∙ e

  pub writer_same : (w : Writer) → IsWriter S K (spot p a) w → IsWriter S L (spot p a) w
  writer_same (writers.TheVariants.Writes j) h = (last_same j h.0, certain_same j true h.1)
  writer_same (writers.TheVariants.MayWrite j) h = (last_same j h.0, certain_same j false h.1)
  writer_same writers.TheVariants.Several h = (λ j last. h.0 j (same_last j last), λ none. h.1 (record { rows = λ k c. none.rows k (candidate_same k c); light = none.light }))
  writer_same writers.TheVariants.None h = record { rows = λ k c. h.rows k (same_candidate k c); light = h.light }

pub implied_same : {W : Type 0} (P : Subject W) (K L : Knowledge) → KnowSameRegisters K L → (p a : ℕ) → implied (along P) K p a ≡ implied (along P) L p a
implied_same P K L same p a = ap (λ (may : ℕ → ℕ → Bool). if nat_lt a (2 ^ 32) && nat_le p P.given.moments.end && (P.given.moments.untraced_past p && all_past P.given.moments may (spot p a) P.given.legs.count) then P.given.dump a else None) (fun_ext (λ i. fun_ext (λ b. may_write_same (along P) K L same i b)))

module _ {W : Type 0} (s : AnalysisState W) (settled : IsSettled s) where
  -- the sets are those of the whole log
  pub filled_all : oldest s.filled s.known.log ≡ s.known.log
  filled_all = let all = settled.filled in oldest_all s.filled s.known.log (omega (arith, all))

  -- the facts of which the sets are tell of registers what is answered
  pub filled_answers : KnowSameRegisters (told (oldest s.filled s.known.log)) (answers s)
  filled_answers p r = rw filled_all refl

  -- the sets are the ranges by what is answered, and none is empty
  pub range_answers : (p r : ℕ) → p ≤ s.path.given.legs.count → r < 32 → entry_at s.spans p r ≡ range (way_of (along s.path)) (answers s) p r
  range_answers p r early in_file = settled.fitted p early r in_file ∙ range_same (along s.path) (told (oldest s.filled s.known.log)) (answers s) filled_answers p r

  -- what is found by the sets is said of what is answered
  pub writer_answers : (p a : ℕ) (w : Writer) → IsWriter (along s.path) (told (oldest s.filled s.known.log)) (spot p a) w → IsWriter (along s.path) (answers s) (spot p a) w
  writer_answers p a w h = writer_same (along s.path) (told (oldest s.filled s.known.log)) (answers s) filled_answers p a w h

  pub implied_answers : (p a : ℕ) → implied (along s.path) (told (oldest s.filled s.known.log)) p a ≡ implied (along s.path) (all_known s) p a
  implied_answers p a = implied_same s.path (told (oldest s.filled s.known.log)) (all_known s) (λ q r. rw filled_all refl) p a

  -- of a tracked address the store tells
  pub byte_tracked : (p a : ℕ) → IsTracked a s → s.known.store.fact p a ≡ answers s p (Byte a)
  byte_tracked p a tracked = sym (cond-true (is_among s.known.store.tracked a) (all_known s p (Byte a)) (implied (along s.path) (all_known s) p a) (contains_among s.known.store.tracked a tracked))

  -- of another one it is what the dump implies
  pub byte_untracked : (p a : ℕ) → (IsTracked a s → ⊥) → implied (along s.path) (all_known s) p a ≡ answers s p (Byte a)
  byte_untracked p a free = sym (cond-false (is_among s.known.store.tracked a) (all_known s p (Byte a)) (implied (along s.path) (all_known s) p a) (false_from_ne_true (is_among s.known.store.tracked a) (λ e. free (among_contains s.known.store.tracked a e))))

  -- a byte of a tracked address that the dump implies is known
  module _ (laws : HasLaws (along s.path)) (a v : ℕ) (tracked : IsTracked a s) where
    same_carries : (m w : ℕ) → Carries (along s.path) (all_known s) (passage a m w) → Carries (along s.path) (told (oldest s.filled s.known.log)) (passage a m w)
    same_carries m w h = record { next = h.next; light = h.light; spared = λ i may_act. may_write_same (along s.path) (told (oldest s.filled s.known.log)) (all_known s) (λ q r. rw filled_all refl) i a ∙ h.spared i may_act }

    at_end : (m : ℕ) → m ≡ s.path.given.moments.end → ImpliedAt (along s.path) (all_known s) m a v → Knows m (Byte a) v s
    at_end m at h = rw at (settled.inferred.bytes a tracked v h.byte)

    -- the end is so many steps away at most
    from_end : (n m : ℕ) → s.path.given.moments.left m ≤ n → ImpliedAt (along s.path) (all_known s) m a v → Knows m (Byte a) v s
    from_end zero m near h =
        elim (cases_eq m s.path.given.moments.end) [
          | inl at ↦ at_end m at h
          | inr other ↦ let less = (laws.moments.reaches m h.early other).nearer in absurd (omega (arith, near, less))
        ]
    from_end (suc k) m near h =
        elim (cases_eq m s.path.given.moments.end) [
          | inl at ↦ at_end m at h
          | inr other ↦
              let next = laws.moments.reaches m h.early other in
              let less = next.nearer in
              let later = from_end k next.to (omega (arith, near, less)) (implied_next (along s.path) laws (all_known s) m next.to a v next.next h) in
              (settled.inferred.carried a m next.to tracked).back v (same_carries m next.to (implied_carries (along s.path) laws (all_known s) m next.to a v next.next h)) later
        ]

  pub implied_known : HasLaws (along s.path) → (p a v : ℕ) → IsTracked a s → implied (along s.path) (all_known s) p a ≡ Some v → Knows p (Byte a) v s
  implied_known laws p a v tracked e = from_end laws a v tracked (s.path.given.moments.left p) p (omega arith) (implied_at (along s.path) laws (all_known s) p a v e)

  -- what the store tells is answered
  pub byte_known : ((p a v : ℕ) → Knows p (Byte a) v s → IsTracked a s) → (p a v : ℕ) → s.known.store.fact p a ≡ Some v → Some v ≡ answers s p (Byte a)
  byte_known listed p a v e = sym e ∙ byte_tracked p a (listed p a v e)

  -- and where it tells nothing, what the dump implies
  pub byte_implied : HasLaws (along s.path) → (p a : ℕ) → s.known.store.fact p a ≡ None → implied (along s.path) (all_known s) p a ≡ answers s p (Byte a)
  byte_implied laws p a none =
      elim (cases_Bool (is_among s.known.store.tracked a)) [
        | inl there ↦
            let tracked = among_contains s.known.store.tracked a there in
            none_unless (implied (along s.path) (all_known s) p a) (λ v e. none_some (sym none ∙ implied_known laws p a v tracked e)) ∙ sym none ∙ byte_tracked p a tracked
        | inr free ↦ byte_untracked p a (λ h. false≢true (sym free ∙ contains_among s.known.store.tracked a h))
      ]

module _ {W : Type 0} (s : AnalysisState W) (finished : IsFinished s) where
  -- what the answered facts tell of registers is answered
  pub shown_answers : KnowSameRegisters (told (oldest s.shown s.known.log)) (answers s)
  shown_answers p r =
      let all = finished.all in
      let same : oldest s.shown s.known.log ≡ s.known.log = oldest_all s.shown s.known.log (omega (arith, all)) in
      rw same refl

  pub register_answers : (p r : ℕ) → register_answer s p r ≡ register_known (answers s) p r
  register_answers p r =
      let all = finished.all in
      let same : oldest s.shown s.known.log ≡ s.known.log = oldest_all s.shown s.known.log (omega (arith, all)) in
      rw same refl

  -- each answer is a fact of the closure, at a point of the path
  pub answers_derived : (p : ℕ) (c : Cell) (v : ℕ) → answers s p c ≡ Some v → InClosure (along s.path) (fact_of p c v)
  answers_derived p c v e = (finished.report.exact (fact_of p c v)).0 e

  pub answers_early : (p : ℕ) (c : Cell) (v : ℕ) → answers s p c ≡ Some v → IsInstant (along s.path) c p × IsCell c
  answers_early p c v e = closure_early (along s.path) (fact_of p c v) (answers_derived p c v e)
