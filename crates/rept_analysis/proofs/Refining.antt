-- What each way to end says.
use Rattle.std.proofs.lemmas.Bool.{cases_eq}
use Rattle.rept_reason.specs.declared.fact.Fact.{Fact}
use Rattle.rept_reason.specs.declared.fact.Cell.TheVariants.{Register, Byte}
use Rattle.rept_report.proofs.Told.{same_some}
use Rattle.rept_facts.proofs.Stopping.{answered, byte_from, logged_derived}
use Rattle.std.proofs.Common.{◌≡◌, ◌≤◌, arith, inl, inr, ℕ, true, Some, None, Result, Ok, Err, refl, sym, subst, ◌∙◌}
use Rattle.std.specs.Prelude.{⊤, OnOk, IsOk, ◌⊎◌}
use Rattle.rept_report.specs.declared.conflict.ConflictKind.{ConflictKind}
use Rattle.rept_report.specs.Setting.{HasLaws}
use Rattle.rept_report.specs.Closure.{InClosure, ClosureHas, IsConsistent, IsReport}
use Rattle.rept_report.specs.Why.{fact_of}
use Rattle.rept_report.specs.Soundness.{AlwaysHolds, IsSound, HasNoExecution}
use Rattle.rept_report.proofs.Soundness.{closure_sound, conflict_sound, report_sound}
use Rattle.rept_facts.specs.declared.stop.Stop.{Stop}
use Rattle.rept_facts.specs.declared.stop.Stop.TheVariants.{Conflict, OutOfMemory}
use Rattle.rept_facts.specs.State.{AnalysisState, Subject, along}
use Rattle.rept_facts.specs.Answers.{byte_answer}
use Rattle.rept_facts.specs.Kept.{register_answer, answers, IsKept}
use Rattle.rept_facts.specs.Refined.{KeepsAnswers, KeepsKnown, IsEnded, IsStopped, IsPaused, Outcome}

module _ {W : Type 0} (old new : AnalysisState W) where
  pub path_of : (r : Result ⊤ Stop) → Outcome old new r → new.path ≡ old.path
  path_of (Ok u) h = h.path
  path_of (Err (Conflict kind)) h = h.path
  path_of (Err OutOfMemory) h = h.path

  pub kept_of : (r : Result ⊤ Stop) → Outcome old new r → KeepsAnswers old new
  kept_of (Ok u) h = h.kept
  kept_of (Err (Conflict kind)) h = h.kept
  kept_of (Err OutOfMemory) h = h.kept

  pub more_of : (r : Result ⊤ Stop) → Outcome old new r → KeepsKnown old new
  more_of (Ok u) h = h.more
  more_of (Err (Conflict kind)) h = h.more
  more_of (Err OutOfMemory) h = h.more

  pub paused_of : (r : Result ⊤ Stop) → Outcome old new r → r ≡ Err OutOfMemory → IsPaused old new
  paused_of r h e = subst (λ (x : Result ⊤ Stop). Outcome old new x) e h

  pub report_of : (r : Result ⊤ Stop) → Outcome old new r → OnOk r (IsReport (along new.path) (answers new))
  report_of (Ok u) h = h.finished.report
  report_of (Err e) h = tt

  pub complete_of : (r : Result ⊤ Stop) → Outcome old new r → OnOk r (new.complete ≡ true)
  complete_of (Ok u) h = h.complete
  complete_of (Err e) h = tt

  pub consistent_of : (r : Result ⊤ Stop) → Outcome old new r → OnOk r (IsConsistent (along old.path))
  consistent_of (Ok u) h = subst (λ (P : Subject W). IsConsistent (along P)) h.path h.finished.report.consistent
  consistent_of (Err e) h = tt

  pub stopped_of : (r : Result ⊤ Stop) (kind : ConflictKind) → Outcome old new r → r ≡ Err (Conflict kind) → IsStopped old new kind
  stopped_of r kind h e = subst (λ (x : Result ⊤ Stop). Outcome old new x) e h

  pub sound_of : HasLaws (along new.path) → (r : Result ⊤ Stop) → Outcome old new r → OnOk r (IsSound (along new.path) (answers new))
  sound_of laws (Ok u) h = report_sound (along new.path) laws (answers new) h.finished.report
  sound_of laws (Err e) h = tt

  pub impossible_of : HasLaws (along old.path) → (r : Result ⊤ Stop) (kind : ConflictKind) → Outcome old new r → r ≡ Err (Conflict kind) → HasNoExecution (along old.path)
  impossible_of laws r kind h e = conflict_sound (along old.path) laws kind (stopped_of r kind h e).has

  -- where memory can't run out, it ends with a report or a conflict
  pub ended_or_stopped : (r : Result ⊤ Stop) → Outcome old new r → (r ≡ Err OutOfMemory → ⊥) → IsOk r ⊎ ((kind : ConflictKind) × (r ≡ Err (Conflict kind)))
  ended_or_stopped (Ok u) h never = inl refl
  ended_or_stopped (Err (Conflict kind)) h never = inr (kind, refl)
  ended_or_stopped (Err OutOfMemory) h never = absurd (never refl)

  -- so it is Ok where the closure has no conflict
  pub exact_of : (r : Result ⊤ Stop) → Outcome old new r → (r ≡ Err OutOfMemory → ⊥) → IsConsistent (along old.path) → IsOk r
  exact_of r h never consistent =
      elim (ended_or_stopped r h never) [
        | inl ok ↦ ok
        | inr stopped ↦ absurd (consistent stopped.0 (stopped_of r stopped.0 h stopped.1).has)
      ]

  -- and names one where it has any
  pub refused_of : (r : Result ⊤ Stop) → Outcome old new r → (r ≡ Err OutOfMemory → ⊥) → (kind : ConflictKind) → ClosureHas (along old.path) kind → (named : ConflictKind) × (r ≡ Err (Conflict named))
  refused_of (Ok u) h never kind has = absurd (consistent_of (Ok u) h kind has)
  refused_of (Err (Conflict named)) h never kind has = (named, refl)
  refused_of (Err OutOfMemory) h never kind has = absurd (never refl)

module _ {W : Type 0} (s : AnalysisState W) (kept : IsKept s) where
  pub stopped_again : (kind : ConflictKind) → s.conflict ≡ Some kind → IsStopped s s kind
  stopped_again kind e = record { path = refl; recorded = e; has = kept.stopped kind e; kept = λ p r v x. x; more = λ p c v x. x; shown = λ calm. absurd (differs (sym calm ∙ e)) }
    where
      differs : None ≡ Some kind → ⊥
      differs x = cc

  pub ended_again : s.complete ≡ true → s.conflict ≡ None → IsEnded s s
  ended_again complete calm = record { path = refl; complete = complete; conflict = calm; finished = kept.finished complete; kept = λ p r v x. x; more = λ p c v x. x }

-- a fact of the closure holds in every execution
pub closure_holds : {W : Type 0} (s : AnalysisState W) → HasLaws (along s.path) → (f : Fact) → InClosure (along s.path) f → AlwaysHolds (along s.path) f.point f.cell f.value
closure_holds s laws f h = closure_sound (along s.path) laws f h

-- what is answered of a register holds in every execution; x0 is 0
pub answer_sound : {W : Type 0} (s : AnalysisState W) → HasLaws (along s.path) → IsKept s → (p r v : ℕ) → p ≤ s.path.given.legs.count → register_answer s p r ≡ Some v → AlwaysHolds (along s.path) p (Register r) v
answer_sound s laws kept p r v early e =
    elim (cases_eq r 0) [
      | inl z ↦
          let is : Some 0 ≡ Some v = rw z at e in
          let value : 0 ≡ v = same_some is in
          λ run x. rw z (x.zero p early ∙ value)
      | inr ne ↦ closure_sound (along s.path) laws (record { point = p; cell = Register r; value = v }) (answered s laws kept p r v e (omega (arith, ne)))
    ]

-- so does what is answered of a byte
pub byte_sound : {W : Type 0} (s : AnalysisState W) → HasLaws (along s.path) → IsKept s → (p a v : ℕ) → byte_answer s p a ≡ Some v → AlwaysHolds (along s.path) p (Byte a) v
byte_sound s laws kept p a v e =
    elim (byte_from s laws kept p a v e) [
      | inl h ↦ closure_sound (along s.path) laws (fact_of p (Byte a) v) (logged_derived s laws kept p a v h)
      | inr h ↦ λ run x. rw h.0 (x.bytes_end a v h.1)
    ]
