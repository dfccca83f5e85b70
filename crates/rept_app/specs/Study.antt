-- What is written of a run that is analysed.
use Rattle.std.specs.Prelude.{◌≡◌, ◌⊎◌, List, ℕ}
use Rattle.rept_ports.specs.Port.{Port, PortMove}
use Rattle.rept_report.specs.Closure.{ClosureHas, IsConsistent}
use Rattle.rept_report.specs.declared.conflict.ConflictKind.{ConflictKind}
use Rattle.rept_session.specs.Serving.Serving.{Reading}
use Rattle.rept_opening.specs.Delivered.{SaysRefusal}
use Rattle.rept_app.specs.Ends.{Yields, EndsSession, PortsEnd}
use Rattle.rept_app.specs.Held.{IsHeldSession}
use Rattle.rept_app.specs.Conflict.{EndsReport, TellsConflict}
use Rattle.rept_opening.specs.Opened.{CrashRun, RunAccount, run_setting, IsAccountOf, told_in}
use Rattle.rept_opening.specs.declared.refusal.Refusal.TheVariants as refusal
use Rattle.rept_opening.specs.declared.status.ExitStatus.{ExitStatus}
use Rattle.rept_opening.specs.declared.status.ExitStatus.TheVariants as ends

-- a conflict is told, or a session held over the report, or memory ran out before
abbrev pub Studies : {W : Type 0} → CrashRun W → Reading → List ℕ → ExitStatus → Type 0
Studies p reading text status =
    TellsConflict p text status
    ⊎ ((a : RunAccount) × IsAccountOf p a × IsHeldSession (told_in p a) reading text status)
    ⊎ SaysRefusal refusal.OutOfMemory text status

-- Each fault has its cause and ends the call; a conflict is told where the closure has one, and a
-- session is held where it has none, unless what is inferred beyond the report has one, or the call
-- stops before.
pub record IsStudied {W : Type 0} (p : CrashRun W) (source sink : PortMove Port) (status : ExitStatus) : Type 0 where
  pub ports : PortsEnd source sink status
  pub conflict : (kind : ConflictKind) → ClosureHas (run_setting p) kind → Yields ends.Inconsistent status
  pub report : IsConsistent (run_setting p) → EndsReport p status
  pub ends_so : (status ≡ ends.Inconsistent) ⊎ EndsSession status

-- a session may have been held, since the closure has no conflict
abbrev pub StudyHolds : {W : Type 0} → CrashRun W → ExitStatus → Type 0
StudyHolds p status = IsConsistent (run_setting p) × EndsSession status
