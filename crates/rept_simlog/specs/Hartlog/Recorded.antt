-- What is recorded of a log of several harts, and why it isn't.
use Rattle.std.specs.Prelude.{◌≡◌, ℕ, ◌<◌, Bool, List, [], ◌∷◌, length, None, Some}
use Rattle.rept_elf.specs.Checks.{checks, first_failure}
use Rattle.rept_elf.specs.declared.fault.Want.TheVariants.{Exec}
use Rattle.rept_path.specs.Code.{Code}
use Rattle.rept_simlog.specs.Lines.{AreEntries, IsNoEntry, last_entries}
use Rattle.rept_simlog.specs.Program.{built}
use Rattle.rept_encode.specs.declared.weaving.stretch.HartStretch.{HartStretch}
use Rattle.rept_encode.specs.Weaving.Woven.{IsTooLong, IsWoven}
use Rattle.rept_simlog.specs.declared.hartlog.log.HartLogLine.{HartLogLine}
use Rattle.rept_simlog.specs.declared.hartlog.refusal.HartLogRefusal.{HartLogRefusal}
use Rattle.rept_simlog.specs.declared.hartlog.refusal.HartLogRefusal.TheVariants.{Executable, NoNumbers, NoInstruction, NoStep, JumpEnds, NoSteps, TooLong, OutOfMemory}
use Rattle.rept_simlog.specs.Hartlog.Log.{IsHartEntry}
use Rattle.rept_simlog.specs.Hartlog.Steps.{HasNoInstruction, HasNoStep, LacksInstruction, LacksStep, AreLogged}
use Rattle.rept_simlog.specs.Hartlog.Stretches.{AreStretchesOf, IsJumpEndOf}

-- why an entry has no step to an address
abbrev pub IsStepRefused : Code → HartLogLine → ℕ → HartLogRefusal → Type 0
IsStepRefused code from to (NoInstruction k fault) = (from.line ≡ k) × HasNoInstruction code from fault
IsStepRefused code from to (NoStep k) = (from.line ≡ k) × HasNoStep code from to
IsStepRefused code from to OutOfMemory = Unit {0}
IsStepRefused code from to (JumpEnds k) = ⊥
IsStepRefused code from to NoSteps = ⊥
IsStepRefused code from to TooLong = ⊥
IsStepRefused code from to (NoNumbers k) = ⊥
IsStepRefused code from to (Executable fault) = ⊥

-- why entries have no stretches
abbrev pub IsStepsFault : Code → List HartLogLine → HartLogRefusal → Type 0
IsStepsFault code entries (NoInstruction k fault) = LacksInstruction code entries k fault
IsStepsFault code entries (NoStep k) = LacksStep code entries k
IsStepsFault code entries OutOfMemory = Unit {0}
IsStepsFault code entries (JumpEnds k) = ⊥
IsStepsFault code entries NoSteps = ⊥
IsStepsFault code entries TooLong = ⊥
IsStepsFault code entries (NoNumbers k) = ⊥
IsStepsFault code entries (Executable fault) = ⊥

-- why stretches aren't written
abbrev pub IsTraceFault : Bool → List HartStretch → HartLogRefusal → Type 0
IsTraceFault halves stretches (JumpEnds k) = IsJumpEndOf stretches k
IsTraceFault halves stretches TooLong = IsTooLong halves stretches
IsTraceFault halves stretches OutOfMemory = Unit {0}
IsTraceFault halves stretches (NoInstruction k fault) = ⊥
IsTraceFault halves stretches (NoStep k) = ⊥
IsTraceFault halves stretches NoSteps = ⊥
IsTraceFault halves stretches (NoNumbers k) = ⊥
IsTraceFault halves stretches (Executable fault) = ⊥

-- The trace has one stream, which has the steps of these entries.
pub record RecordsSeveralHarts (code : Code) (entries : List HartLogLine) (trace : List ℕ) : Type 0 where
  pub stretches : List HartStretch
  pub steps : AreStretchesOf code entries stretches
  pub some : 0 < length stretches
  pub woven : IsWoven code.halves (stretches ∷ []) trace

-- the steps of these entries make stretches of which this is so
abbrev pub HaveStretches : Code → List HartLogLine → (List HartStretch → Type 0) → Type 0
HaveStretches code entries P = (stretches : List HartStretch) × AreStretchesOf code entries stretches × P stretches

-- why entries aren't recorded
abbrev pub IsNotRecorded : Code → List HartLogLine → HartLogRefusal → Type 0
IsNotRecorded code entries (NoInstruction k fault) = LacksInstruction code entries k fault
IsNotRecorded code entries (NoStep k) = LacksStep code entries k
IsNotRecorded code entries (JumpEnds k) = HaveStretches code entries (λ stretches. IsJumpEndOf stretches k)
IsNotRecorded code entries NoSteps = AreLogged code entries []
IsNotRecorded code entries TooLong = HaveStretches code entries (λ stretches. (0 < length stretches) × IsTooLong code.halves stretches)
IsNotRecorded code entries OutOfMemory = Unit {0}
IsNotRecorded code entries (NoNumbers k) = ⊥
IsNotRecorded code entries (Executable fault) = ⊥

-- The trace tells the last steps of a log over an executable.
pub record IsRecordedSeveralHarts (exe log trace : List ℕ) : Type 0 where
  pub read : first_failure (checks Exec exe) ≡ None
  pub entries : List HartLogLine
  pub lines : AreEntries IsHartEntry log entries
  pub records : RecordsSeveralHarts (built exe) (last_entries entries) trace

-- The lines are read, and the last steps of the log over the executable aren't recorded, for this.
abbrev pub IsLogStopped : List ℕ → List ℕ → HartLogRefusal → Type 0
IsLogStopped exe log refusal = (entries : List HartLogLine) × AreEntries IsHartEntry log entries × IsNotRecorded (built exe) (last_entries entries) refusal

-- why there is no trace
abbrev pub IsRefusedSeveralHarts : List ℕ → List ℕ → HartLogRefusal → Type 0
IsRefusedSeveralHarts exe log (Executable fault) = first_failure (checks Exec exe) ≡ Some fault
IsRefusedSeveralHarts exe log (NoNumbers k) = IsNoEntry IsHartEntry log k
IsRefusedSeveralHarts exe log (NoInstruction k fault) = IsLogStopped exe log (NoInstruction k fault)
IsRefusedSeveralHarts exe log (NoStep k) = IsLogStopped exe log (NoStep k)
IsRefusedSeveralHarts exe log (JumpEnds k) = IsLogStopped exe log (JumpEnds k)
IsRefusedSeveralHarts exe log NoSteps = IsLogStopped exe log NoSteps
IsRefusedSeveralHarts exe log TooLong = IsLogStopped exe log TooLong
IsRefusedSeveralHarts exe log OutOfMemory = Unit {0}
