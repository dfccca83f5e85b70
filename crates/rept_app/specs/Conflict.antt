-- The line of a conflict, and how a call ends whose closure has none.
use Rattle.std.specs.Prelude.{◌⊎◌, ℕ, List}
use Rattle.rept_report.specs.Closure.{ClosureHas}
use Rattle.rept_report.specs.declared.conflict.ConflictKind.{ConflictKind}
use Rattle.rept_opening.specs.Delivered.{SaysRefusal}
use Rattle.rept_app.specs.Ends.{EndsSession, Yields}
use Rattle.rept_opening.specs.Opened.{CrashRun, contradiction_in, run_setting}
use Rattle.rept_opening.specs.True.{IsRefuted}
use Rattle.rept_opening.specs.declared.refusal.Refusal.TheVariants as refusal
use Rattle.rept_opening.specs.declared.status.ExitStatus.{ExitStatus}
use Rattle.rept_opening.specs.declared.status.ExitStatus.TheVariants as ends

-- The closure of the run and the crash has a conflict, of which the line tells one; or no admitted
-- execution has what is inferred beyond the report, and the line tells the register of which that
-- was seen.
abbrev pub TellsConflict : {W : Type 0} → CrashRun W → List ℕ → ExitStatus → Type 0
TellsConflict p text status =
    ((kind : ConflictKind) × ClosureHas (run_setting p) kind × SaysRefusal (refusal.Inconsistent (contradiction_in p kind)) text status)
    ⊎ ((point : ℕ) × (reg : ℕ) × IsRefuted p × SaysRefusal (refusal.Refuted point reg) text status)

-- a session is held, unless what is inferred beyond the report has a conflict
abbrev pub EndsReport : {W : Type 0} → CrashRun W → ExitStatus → Type 0
EndsReport p status = EndsSession status ⊎ (IsRefuted p × Yields ends.Inconsistent status)
