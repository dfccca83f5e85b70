-- What is recorded of a log of one hart, of several, or of qemu's, and why it isn't. The first line
-- says which of them it is. This project's own.
use Rattle.std.specs.Prelude.{◌≡◌, ℕ, List, true, false}
use Rattle.rept_simlog.specs.Recorded as one
use Rattle.rept_simlog.specs.Hartlog.Log.{NamesHarts}
use Rattle.rept_simlog.specs.Hartlog.Recorded as several
use Rattle.rept_simlog.specs.Recording.Qemu.{is_step_line, plain_log}
use Rattle.rept_simlog.specs.declared.recording.logs.LogRefusal.{LogRefusal}
use Rattle.rept_simlog.specs.declared.recording.logs.LogRefusal.TheVariants.{OneHart, Qemu, SeveralHarts}

-- The trace tells the last steps of the log over the executable: of qemu's where it begins with
-- `Trace `, else of several harts where its first line has a space, else of one.
pub record IsRecordedLog (exe log trace : List ℕ) : Type 0 where
  pub qemu : is_step_line log ≡ true → one.IsRecordedOneHart exe (plain_log log) trace
  pub several_harts : is_step_line log ≡ false → NamesHarts log → several.IsRecordedSeveralHarts exe log trace
  pub one_hart : is_step_line log ≡ false → (NamesHarts log → ⊥) → one.IsRecordedOneHart exe log trace

-- why there is none
abbrev pub IsRefusedLog : List ℕ → List ℕ → LogRefusal → Type 0
IsRefusedLog exe log (Qemu refusal) = (is_step_line log ≡ true) × one.IsRefusedOneHart exe (plain_log log) refusal
IsRefusedLog exe log (SeveralHarts refusal) = (is_step_line log ≡ false) × NamesHarts log × several.IsRefusedSeveralHarts exe log refusal
IsRefusedLog exe log (OneHart refusal) = (is_step_line log ≡ false) × (NamesHarts log → ⊥) × one.IsRefusedOneHart exe log refusal
