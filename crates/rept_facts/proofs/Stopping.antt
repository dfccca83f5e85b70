-- What stands when an analysis stops.
use Rattle.std.proofs.Common.{◌≡◌, ◌⊎◌, ℕ, ◌<◌, ◌≤◌, ◌^◌, Bool, true, false, List, [], ◌∷◌, length, Option, Some, None, inl, inr, refl, sym, subst, ◌∙◌, arith, ltb, eqb, cond}
use Rattle.std.specs.Prelude.{◌==◌, ◌&&◌, is_some}
use Rattle.std.proofs.lemmas.Bool.{cases_eq, cases_lt, false≢true, cond-true, cond-false, lt-ltb, le-ltb, eq-eqb, ne_eqb}
use Rattle.rept_isa.specs.declared.row.StepRow.{StepRow}
use Rattle.rept_reason.specs.declared.fact.Fact.{Fact}
use Rattle.rept_reason.specs.declared.fact.Cell.{Cell}
use Rattle.rept_reason.specs.declared.fact.Cell.TheVariants.{Register, Byte}
use Rattle.rept_reason.specs.Facts.{Knowledge, In, told}
use Rattle.rept_report.specs.declared.conflict.ConflictKind.{ConflictKind}
use Rattle.rept_report.specs.declared.conflict.ConflictKind.TheVariants.{TwoValues}
use Rattle.rept_report.specs.Setting.{HasLaws}
use Rattle.rept_report.specs.Conclusions.{Concludes}
use Rattle.rept_report.specs.Conclusions.Follows.{carried}
use Rattle.rept_report.specs.Conclusions.IsCarried.{last_byte}
use Rattle.rept_report.specs.Why.{fact_of}
use Rattle.rept_report.specs.Conflicts.{IsQuiet, Shows}
use Rattle.rept_report.specs.Closure.{InClosure, ClosureHas}
use Rattle.rept_report.specs.Log.{oldest, Entry, facts_of, add_if, logged_of}
use Rattle.rept_report.specs.Origin.Logs.{source}
use Rattle.rept_report.proofs.Told.{told_in, none_some}
use Rattle.rept_report.proofs.Places.{oldest_more, oldest_less, oldest_new}
use Rattle.rept_report.specs.Laws.SeenLaws.{known_fact}
use Rattle.rept_report.proofs.Monotony.{quiet_less}
use Rattle.rept_report.proofs.Traces.{derived_below, least_conflict, clash_closure, front_closure, next_derivation}
use Rattle.rept_facts.specs.State.{AnalysisState, all_known, along}
use Rattle.rept_facts.specs.Inferring.{IsClash, IsSettled, IsRowInferred}
use Rattle.rept_facts.specs.Answers.{HasClosure, byte_answer}
use Rattle.rept_facts.specs.Kept.{register_answer, IsKept}
use Rattle.rept_facts.specs.Refined.{clash_kind}
use Rattle.rept_facts.proofs.Barriers.{writings_still}
use Rattle.rept_facts.proofs.Passing.{passes_more}
use Rattle.rept_facts.proofs.Learning.{trace_known}
use Rattle.rept_facts.proofs.Reported.{settled_report}

oldest_zero : (fs : List Fact) → oldest 0 fs ≡ []
oldest_zero [] = refl
oldest_zero (f ∷ fs) = oldest_new 0 f fs (omega arith) ∙ oldest_zero fs

logged_in : (es : List Entry) (f : Fact) → In (logged_of es) f → In (facts_of es) f
logged_in [] f h = h
logged_in (e ∷ es) f h = either (λ k. logged_in es f k) e.logged h
  where
    either : (In (logged_of es) f → In (facts_of es) f) → (b : Bool) → In (add_if b e.fact (logged_of es)) f → In (facts_of (e ∷ es)) f
    either older true (inl is) = inl is
    either older true (inr k) = inr (older k)
    either older false k = inr (older k)

-- what is answered unless a test holds
unless_some : (b : Bool) (x : Option ℕ) (v : ℕ) → cond b None x ≡ Some v → (b ≡ false) × (x ≡ Some v)
unless_some true x v e = absurd (none_some e)
unless_some false x v e = (refl, e)

no_conflict : {A : Type 0} (x : Option A) (b : Bool) → b ≡ true → (is_some x && b) ≡ false → x ≡ None
no_conflict None b t e = refl
no_conflict (Some k) b t e = absurd (false≢true (sym e ∙ t))

module _ {W : Type 0} (s : AnalysisState W) (laws : HasLaws (along s.path)) (kept : IsKept s) where
  -- what is quiet was quiet at each place before
  pub quiet_before : (t u : ℕ) → u ≤ t → IsQuiet (along s.path) (told (oldest t s.known.log)) → IsQuiet (along s.path) (told (oldest u s.known.log))
  quiet_before t u le quiet = quiet_less (along s.path) laws (told (oldest u s.known.log)) (told (oldest t s.known.log)) (λ p r v e. oldest_more u t s.known.log kept.once le p (Register r) v e) quiet

  -- what the least loud prefix shows is a conflict of the closure
  pub shown_conflict : (t : ℕ) → ((u : ℕ) → u < t → IsQuiet (along s.path) (told (oldest u s.known.log))) → (kind : ConflictKind) → Shows (along s.path) (told (oldest t s.known.log)) kind → ClosureHas (along s.path) kind
  shown_conflict t quiet kind shows = least_conflict (along s.path) laws kept.traced.entries kept.traced.trace t (λ u below. rw kept.traced.logged (quiet u below)) kind (rw kept.traced.logged shows)

  -- so is a clash on a quiet log
  pub clash_conflict : (p : ℕ) (c : Cell) (known value : ℕ) → IsQuiet (along s.path) (all_known s) → IsClash s (record { point = p; cell = c; value = value }) known → ClosureHas (along s.path) (clash_kind p c known value)
  clash_conflict p c known value quiet clash =
      let same = trace_known s kept in
      let calm = subst (λ (K : Knowledge). IsQuiet (along s.path) K) (sym same) quiet in
      let follows = subst (λ (K : Knowledge). Concludes (along s.path) K (record { point = p; cell = c; value = value })) (sym same) (clash.follows quiet) in
      let both = clash_closure (along s.path) laws kept.traced.entries kept.traced.trace calm (record { point = p; cell = c; value = value }) known follows (kept.traced.agree p c ∙ clash.is_known) in
      elim (cases_lt known value) [
        | inl lt ↦ rw (cond-true (ltb known value) (TwoValues p c known value) (TwoValues p c value known) (lt-ltb known value lt)) (both.0 lt)
        | inr le ↦ rw (cond-false (ltb known value) (TwoValues p c known value) (TwoValues p c value known) (le-ltb known value le)) (both.1 (more le))
      ]
    where
      more : value ≤ known → value < known
      more le = let differs = clash.differs in elim (cases_lt value known) [ inl lt ↦ lt | inr ge ↦ absurd (differs (omega (arith, le, ge))) ]

  -- what is answered of registers is of the closure
  pub answered : (p r v : ℕ) → register_answer s p r ≡ Some v → 0 < r → InClosure (along s.path) (record { point = p; cell = Register r; value = v })
  answered p r v e named =
      let d = derived_below (along s.path) laws kept.traced.entries kept.traced.trace s.shown (λ u below. rw kept.traced.logged (kept.calm u below)) in
      elim (known_fact (told (oldest s.shown s.known.log)) p r v e) [
        | inl z ↦ let zero_is = z.0 in absurd (omega (arith, named, zero_is))
        | inr h ↦
            let at = told_in (oldest s.shown s.known.log) p (Register r) v h.1 in
            (facts_of d.0, d.1, logged_in d.0 _ (rw (d.2, kept.traced.logged) at))
      ]

  -- a fact that is answered is of the closure
  pub logged_derived : (p a v : ℕ) → told (oldest s.shown s.known.log) p (Byte a) ≡ Some v → InClosure (along s.path) (fact_of p (Byte a) v)
  logged_derived p a v e = front_closure (along s.path) laws kept.traced.entries kept.traced.trace s.shown (λ u below. rw kept.traced.logged (kept.calm u below)) (fact_of p (Byte a) v) (rw kept.traced.logged (told_in (oldest s.shown s.known.log) p (Byte a) v e))

  -- so is a byte of the dump, where no conflict needs no fact
  dump_derived : IsQuiet (along s.path) (told []) → (a v : ℕ) → a < 2 ^ 32 → s.path.given.dump a ≡ Some v → InClosure (along s.path) (fact_of s.path.given.moments.end (Byte a) v)
  dump_derived quiet a v small e =
      let f = fact_of s.path.given.moments.end (Byte a) v in
      (f ∷ [], next_derivation (along s.path) laws [] tt quiet f (record { early = omega arith; cell = small; word = tt; by = carried (last_byte a refl refl e) }), inl refl)

  -- none does where a fact is answered, or no conflict is found
  quiet_first : s.complete ≡ false → HasClosure s → (is_some s.conflict && s.shown == 0) ≡ false → IsQuiet (along s.path) (told [])
  quiet_first open_ has shows =
      elim (cases_eq s.shown 0) [
        | inl z ↦ has open_ z (no_conflict s.conflict (eqb s.shown 0) (eq-eqb s.shown 0 z) shows)
        | inr ne ↦ subst (λ (fs : List Fact). IsQuiet (along s.path) (told fs)) (oldest_zero s.known.log) (kept.calm 0 (omega (arith, ne)))
      ]

  -- what is answered of bytes is that of a fact, or the dump's
  pub byte_from : (p a v : ℕ) → byte_answer s p a ≡ Some v → (told (oldest s.shown s.known.log) p (Byte a) ≡ Some v) ⊎ ((p ≡ s.path.given.moments.end) × (s.path.given.dump a ≡ Some v))
  byte_from p a v answer = of (told (oldest s.shown s.known.log) p (Byte a)) refl (unless_some (is_some s.conflict && s.shown == 0) (source (along s.path) (oldest s.shown s.known.log) a p) v answer).1
    where
      at_end : cond (eqb p s.path.given.moments.end) (s.path.given.dump a) None ≡ Some v → (p ≡ s.path.given.moments.end) × (s.path.given.dump a ≡ Some v)
      at_end h =
          elim (cases_eq p s.path.given.moments.end) [
            | inl is ↦ (is, sym (cond-true (eqb p s.path.given.moments.end) (s.path.given.dump a) None (eq-eqb p s.path.given.moments.end is)) ∙ h)
            | inr ne ↦ absurd (none_some (sym (cond-false (eqb p s.path.given.moments.end) (s.path.given.dump a) None (ne_eqb p s.path.given.moments.end ne)) ∙ h))
          ]

      of : (x : Option ℕ) → told (oldest s.shown s.known.log) p (Byte a) ≡ x → source (along s.path) (oldest s.shown s.known.log) a p ≡ Some v → (told (oldest s.shown s.known.log) p (Byte a) ≡ Some v) ⊎ ((p ≡ s.path.given.moments.end) × (s.path.given.dump a ≡ Some v))
      of (Some w) is h =
          let value : Some w ≡ Some v = rw is at h in
          inl (is ∙ value)
      of None is h = inr (at_end (rw is at h))

  -- it is of the closure
  pub byte_answered : s.complete ≡ false → HasClosure s → (p a v : ℕ) → a < 2 ^ 32 → byte_answer s p a ≡ Some v → InClosure (along s.path) (fact_of p (Byte a) v)
  byte_answered open_ has p a v small e =
      elim (byte_from p a v e) [
        | inl h ↦ logged_derived p a v h
        | inr h ↦ rw h.0 (dump_derived (quiet_first open_ has (unless_some (is_some s.conflict && s.shown == 0) (source (along s.path) (oldest s.shown s.known.log) a p) v e).0) a v small h.1)
      ]

  abbrev pub stopped_at : ℕ → ConflictKind → AnalysisState W
  stopped_at limit kind = record { path = s.path; known = s.known; spans = s.spans; filled = s.filled; shown = limit; complete = s.complete; conflict = Some kind; work = s.work }

  -- an analysis that stops at a place
  pub kept_stopped : s.complete ≡ false → (limit : ℕ) (kind : ConflictKind) → limit ≤ length s.known.log → ((u : ℕ) → u < limit → IsQuiet (along s.path) (told (oldest u s.known.log))) → ClosureHas (along s.path) kind → IsKept (stopped_at limit kind)
  kept_stopped open_ limit kind within quiet found = record {
    few = kept.few;
    registers = kept.registers;
    last_is = kept.last_is;
    sized = kept.sized;
    filled = kept.filled;
    once = kept.once;
    traced = record { entries = kept.traced.entries; trace = kept.traced.trace; logged = kept.traced.logged; agree = kept.traced.agree };
    listed = kept.listed;
    shown = within;
    calm = quiet;
    stopped = λ kind' e. subst (ClosureHas (along s.path)) (some_kind e) found;
    finished = λ e. absurd (false≢true (sym open_ ∙ e));
    room = kept.room;
    rows = kept.rows;
    inferred = passes_more s (stopped_at limit kind) refl (λ p c v e. e) refl kept.inferred;
    roomy = kept.roomy;
  }
    where
      some_kind : {x y : ConflictKind} → Some x ≡ Some y → x ≡ y
      some_kind e = cc

  abbrev shown_to : ℕ → AnalysisState W
  shown_to limit = record { path = s.path; known = s.known; spans = s.spans; filled = s.filled; shown = limit; complete = s.complete; conflict = s.conflict; work = s.work }

  -- one that answers more
  pub kept_shown : s.complete ≡ false → (limit : ℕ) → limit ≤ length s.known.log → ((u : ℕ) → u < limit → IsQuiet (along s.path) (told (oldest u s.known.log))) → IsKept (shown_to limit)
  kept_shown open_ limit within quiet = record {
    few = kept.few;
    registers = kept.registers;
    last_is = kept.last_is;
    sized = kept.sized;
    filled = kept.filled;
    once = kept.once;
    traced = record { entries = kept.traced.entries; trace = kept.traced.trace; logged = kept.traced.logged; agree = kept.traced.agree };
    listed = kept.listed;
    shown = within;
    calm = quiet;
    stopped = kept.stopped;
    finished = λ e. absurd (false≢true (sym open_ ∙ e));
    room = kept.room;
    rows = kept.rows;
    inferred = passes_more s (shown_to limit) refl (λ p c v e. e) refl kept.inferred;
    roomy = kept.roomy;
  }

  abbrev finished_at : AnalysisState W
  finished_at = record { path = s.path; known = s.known; spans = s.spans; filled = s.filled; shown = length s.known.log; complete = true; conflict = s.conflict; work = s.work }

  again : (i : ℕ) (row : StepRow) → IsRowInferred row i s → IsRowInferred row i finished_at
  again i row d = record {
    registers = λ r named in_file kept'. let k = d.registers r named in_file kept' in record { onward = k.onward; back = k.back };
    tracked = d.tracked;
    inferred = d.inferred;
  }

  -- one that has ended
  pub kept_finished : IsSettled s → IsKept finished_at
  kept_finished settled = record {
    few = kept.few;
    registers = kept.registers;
    last_is = kept.last_is;
    sized = kept.sized;
    filled = kept.filled;
    once = kept.once;
    traced = record { entries = kept.traced.entries; trace = kept.traced.trace; logged = kept.traced.logged; agree = kept.traced.agree };
    listed = kept.listed;
    shown = omega arith;
    calm = λ u below. quiet_less (along s.path) laws (told (oldest u s.known.log)) (all_known s) (λ p r v e. oldest_less u s.known.log kept.once p (Register r) v e) settled.quiet;
    stopped = kept.stopped;
    finished = λ _. record {
      settled = record { quiet = settled.quiet; fitted = settled.fitted; filled = settled.filled; inferred = record { last = settled.inferred.last; rows = λ i inside row found. again i row (settled.inferred.rows i inside row found); bytes = settled.inferred.bytes; carried = λ a m w at. let k = settled.inferred.carried a m w at in record { onward = k.onward; back = k.back }; singles = settled.inferred.singles }; writings = writings_still s finished_at refl refl refl (λ p c v e. e) refl (λ h. h) settled.writings; exact = settled.exact };
      report = settled_report s laws kept settled;
      all = refl;
    };
    room = kept.room;
    rows = kept.rows;
    inferred = passes_more s finished_at refl (λ p c v e. e) refl kept.inferred;
    roomy = kept.roomy;
  }
