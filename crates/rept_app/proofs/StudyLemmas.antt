-- From the report of the analysis to what is written of it.
use Rattle.std.proofs.Common.{◌≡◌, ◌⊎◌, ℕ, ◌≤◌, List, inl, inr, refl, subst}
use Rattle.rept_steps.specs.Runs.{course_of}
use Rattle.rept_steps.specs.declared.run.Run.{Run}
use Rattle.rept_ports.specs.Port.{Port, PortMove, move}
use Rattle.rept_report.specs.Closure.{ClosureHas, IsConsistent}
use Rattle.rept_report.specs.declared.conflict.ConflictKind.{ConflictKind}
use Rattle.rept_found.specs.Trip.Trip.{Trip}
use Rattle.rept_found.specs.Contradictions.{contradiction_on}
use Rattle.rept_found.specs.Crash.{Crash, Means, scene_of, setting, route}
use Rattle.rept_found.specs.View.{CrashView, IsFoundIn, trip_in}
use Rattle.rept_found.specs.declared.contradiction.Contradiction.{Contradiction}
use Rattle.rept_session.specs.Serving.Serving.{Reading}
use Rattle.rept_opening.specs.Delivered.{Delivers, SaysOrNoMemory}
use Rattle.rept_app.specs.Ends.{Stopped, Yields, EndsSession, IsCaused, PortsEnd}
use Rattle.rept_app.specs.Held.{IsHeldSession}
use Rattle.rept_opening.specs.Report.{HasNoReport}
use Rattle.rept_app.specs.Study.{Studies, IsStudied}
use Rattle.rept_opening.specs.Opened.{crash_run, contradiction_in}
use Rattle.rept_opening.specs.True.{IsExcluded, IsRefuted}
use Rattle.rept_opening.specs.declared.refusal.Refusal.{Refusal}
use Rattle.rept_opening.specs.declared.refusal.Refusal.TheVariants as refusal
use Rattle.rept_opening.specs.declared.status.ExitStatus.{ExitStatus}
use Rattle.rept_opening.specs.declared.status.ExitStatus.TheVariants as ends
use Rattle.rept_app.proofs.DeliveredLemmas.{ends_told, not_yielded, told_ports}

module _ {W : Type 0} (m : Means W) (crash : Crash) (run : Run) (reading : Reading) where
  pub no_memory_studies : (text : List ℕ) (status : ExitStatus) → SaysOrNoMemory refusal.OutOfMemory text status → Studies (crash_run m crash run) reading text status
  no_memory_studies text status (inl h) = inr (inr h)
  no_memory_studies text status (inr h) = inr (inr h)

  pub conflict_studies : (kind : ConflictKind) (c : Contradiction) → c ≡ contradiction_on (course_of run) kind → ClosureHas (setting m crash (course_of run)) kind → (text : List ℕ) (status : ExitStatus) → SaysOrNoMemory (refusal.Inconsistent c) text status → Studies (crash_run m crash run) reading text status
  conflict_studies kind c same has text status told = by (subst (λ (x : Contradiction). SaysOrNoMemory (refusal.Inconsistent x) text status) same told)
    where
      by : SaysOrNoMemory (refusal.Inconsistent (contradiction_in (crash_run m crash run) kind)) text status → Studies (crash_run m crash run) reading text status
      by (inl h) = inl (inl (kind, has, h))
      by (inr h) = inr (inr h)

  pub refuted_studies : (point reg : ℕ) → IsRefuted (crash_run m crash run) → (text : List ℕ) (status : ExitStatus) → SaysOrNoMemory (refusal.Refuted point reg) text status → Studies (crash_run m crash run) reading text status
  refuted_studies point reg refuted text status (inl h) = inl (inr (point, reg, refuted, h))
  refuted_studies point reg refuted text status (inr h) = inr (inr h)

-- where the closure is consistent, a session is held
pub held_causes : {W : Type 0} (m : Means W) (crash : Crash) (run : Run) (source sink : PortMove Port) (status : ExitStatus) → IsConsistent (setting m crash (course_of run)) → IsCaused source sink status → IsStudied (crash_run m crash run) source sink status
held_causes m crash run source sink status consistent c = record {
  ports = c.ports;
  conflict = λ kind has. absurd (consistent kind has);
  report = λ _. inl c.answered;
  ends_so = inr c.answered;
}

-- where it has a conflict, one is told
pub told_causes : {W : Type 0} (m : Means W) (crash : Crash) (run : Run) (source sink : PortMove Port) (status : ExitStatus) (kind : ConflictKind) → ClosureHas (setting m crash (course_of run)) kind → PortsEnd source sink status → Yields ends.Inconsistent status → IsStudied (crash_run m crash run) source sink status
told_causes m crash run source sink status kind has ports so = record {
  ports = ports;
  conflict = λ _ _. so;
  report = λ consistent. absurd (consistent kind has);
  ends_so = to_all so;
}
  where
    to_all : Yields ends.Inconsistent status → (status ≡ ends.Inconsistent) ⊎ EndsSession status
    to_all (inl h) = inl h
    to_all (inr h) = inr (inr (inr (inr h)))

-- where what is inferred beyond the report has one
pub refuted_causes : {W : Type 0} (m : Means W) (crash : Crash) (run : Run) (source sink : PortMove Port) (status : ExitStatus) → IsRefuted (crash_run m crash run) → PortsEnd source sink status → Yields ends.Inconsistent status → IsStudied (crash_run m crash run) source sink status
refuted_causes m crash run source sink status refuted ports so = record {
  ports = ports;
  conflict = λ _ _. so;
  report = λ _. inr (refuted, so);
  ends_so = to_all so;
}
  where
    to_all : Yields ends.Inconsistent status → (status ≡ ends.Inconsistent) ⊎ EndsSession status
    to_all (inl h) = inl h
    to_all (inr h) = inr (inr (inr (inr h)))

-- where there was no memory for the analysis
pub memory_causes : {W : Type 0} (m : Means W) (crash : Crash) (run : Run) (source sink : PortMove Port) (status : ExitStatus) → PortsEnd source sink status → Yields ends.OutOfMemory status → IsStudied (crash_run m crash run) source sink status
memory_causes m crash run source sink status ports so = record {
  ports = ports;
  conflict = λ _ _. inr (stops so);
  report = λ _. inl (inr (inr (inr (stops so))));
  ends_so = inr (inr (inr (inr (stops so))));
}
  where
    stops : Yields ends.OutOfMemory status → Stopped status
    stops (inl h) = inr h
    stops (inr h) = h

-- where there is no report
module _ {W : Type 0} (m : Means W) (crash : Crash) (run : Run) (r : Refusal) (why : HasNoReport (crash_run m crash run) r) where
  pub refused_studies : (reading : Reading) (text : List ℕ) (status : ExitStatus) → SaysOrNoMemory r text status → Studies (crash_run m crash run) reading text status
  refused_studies reading text status told = by why
    where
      by : HasNoReport (crash_run m crash run) r → Studies (crash_run m crash run) reading text status
      by (inl (kind, has, none, is)) = conflict_studies m crash run reading kind (contradiction_on (course_of run) kind) refl has text status (subst (λ (x : Refusal). SaysOrNoMemory x text status) is told)
      by (inr (inl (point, reg, refuted, is))) = refuted_studies m crash run reading point reg refuted text status (subst (λ (x : Refusal). SaysOrNoMemory x text status) is told)
      by (inr (inr is)) = no_memory_studies m crash run reading text status (subst (λ (x : Refusal). SaysOrNoMemory x text status) is told)

  pub refused_causes : (source : Port) (out : PortMove Port) (status : ExitStatus) → Delivers (SaysOrNoMemory r) out status → IsStudied (crash_run m crash run) (move source source) out status
  refused_causes source out status told = by why
    where
      by : HasNoReport (crash_run m crash run) r → IsStudied (crash_run m crash run) (move source source) out status
      by (inl (kind, has, none, is)) =
          let conflict = refusal.Inconsistent (contradiction_on (course_of run) kind) in
          let its = subst (λ (x : Refusal). Delivers (SaysOrNoMemory x) out status) is told in
          told_causes m crash run (move source source) out status kind has
          (told_ports conflict source out status (λ (same : ends.Inconsistent ≡ ends.InputFault). cc) (λ (same : ends.Inconsistent ≡ ends.OutputFault). cc) its) (ends_told conflict out status its)
      by (inr (inl (point, reg, refuted, is))) =
          let conflict = refusal.Refuted point reg in
          let its = subst (λ (x : Refusal). Delivers (SaysOrNoMemory x) out status) is told in
          refuted_causes m crash run (move source source) out status refuted
          (told_ports conflict source out status (λ (same : ends.Inconsistent ≡ ends.InputFault). cc) (λ (same : ends.Inconsistent ≡ ends.OutputFault). cc) its) (ends_told conflict out status its)
      by (inr (inr is)) =
          let its = subst (λ (x : Refusal). Delivers (SaysOrNoMemory x) out status) is told in
          memory_causes m crash run (move source source) out status
          (told_ports refusal.OutOfMemory source out status (λ (same : ends.OutOfMemory ≡ ends.InputFault). cc) (λ (same : ends.OutOfMemory ≡ ends.OutputFault). cc) its) (ends_told refusal.OutOfMemory out status its)

  pub refused_excludes : (out : PortMove Port) (status : ExitStatus) → Delivers (SaysOrNoMemory r) out status → status ≡ ends.Inconsistent → IsExcluded (crash_run m crash run)
  refused_excludes out status told e = by why
    where
      by : HasNoReport (crash_run m crash run) r → IsExcluded (crash_run m crash run)
      by (inl (kind, has, none, is)) = inl none
      by (inr (inl (point, reg, refuted, is))) = inr refuted
      by (inr (inr is)) =
          absurd (not_yielded ends.OutOfMemory ends.Inconsistent status (λ (same : ends.OutOfMemory ≡ ends.Inconsistent). cc) (λ (same : ends.Inconsistent ≡ ends.OutputFault). cc) (λ (same : ends.Inconsistent ≡ ends.OutOfMemory). cc)
          (ends_told refusal.OutOfMemory out status (subst (λ (x : Refusal). Delivers (SaysOrNoMemory x) out status) is told)) e)

-- a session doesn't end as a conflict does
pub not_inconsistent : (status : ExitStatus) → EndsSession status → status ≡ ends.Inconsistent → ⊥
not_inconsistent status (inl h) e = cc
not_inconsistent status (inr (inl h)) e = cc
not_inconsistent status (inr (inr (inl h))) e = cc
not_inconsistent status (inr (inr (inr (inl h)))) e = cc
not_inconsistent status (inr (inr (inr (inr h)))) e = cc

-- what was delivered to an output that was as before
pub delivers_from : (Goes : List ℕ → ExitStatus → Type 0) (old mid new : Port) (result : ExitStatus) → mid ≡ old → Delivers Goes (move mid new) result → Delivers Goes (move old new) result
delivers_from Goes old mid new result same h = subst (λ (x : Port). Delivers Goes (move x new) result) same h
