-- What is recorded of a log, and why it isn't.
use Rattle.std.specs.Prelude.{◌≡◌, ℕ, ◌<◌, List, length, None, Some, Ok, Err}
use Rattle.rept_isa.specs.declared.instr.Instr.{Instr}
use Rattle.rept_path.specs.Code.{Code, look}
use Rattle.rept_encode.specs.Added.{MayAddStep}
use Rattle.rept_elf.specs.Checks.{checks, first_failure}
use Rattle.rept_elf.specs.declared.fault.Want.TheVariants.{Exec}
use Rattle.rept_simlog.specs.declared.entry.LogLine.{LogLine}
use Rattle.rept_simlog.specs.declared.refusal.SimLogRefusal.{SimLogRefusal}
use Rattle.rept_simlog.specs.declared.refusal.SimLogRefusal.TheVariants.{Executable, NoNumber, NoInstruction, NoStep, JumpEnds, NoSteps, OutOfMemory}
use Rattle.rept_simlog.specs.Lines.{AreEntries, IsNoEntry, last_entries}
use Rattle.rept_simlog.specs.Log.{IsAddressEntry}
use Rattle.rept_simlog.specs.Walk.{step_asked, LacksInstruction, LacksStep, EndsJump, RecordsOneHart}
use Rattle.rept_simlog.specs.Program.{built}

-- why no step is added between two entries
abbrev pub IsStepRefused : Code → LogLine → LogLine → SimLogRefusal → Type 0
IsStepRefused code from to (NoInstruction k fault) = (from.line ≡ k) × (look code from.address ≡ Err fault)
IsStepRefused code from to (NoStep k) = (to.line ≡ k) × ((instr : Instr) × (look code from.address ≡ Ok instr) × (MayAddStep (step_asked code instr from to) → ⊥))
IsStepRefused code from to OutOfMemory = Unit {0}
IsStepRefused code from to (JumpEnds k) = ⊥
IsStepRefused code from to NoSteps = ⊥
IsStepRefused code from to (NoNumber k) = ⊥
IsStepRefused code from to (Executable fault) = ⊥

-- why the entries aren't recorded
abbrev pub IsWalkFault : Code → List LogLine → SimLogRefusal → Type 0
IsWalkFault code entries (NoInstruction k fault) = LacksInstruction code entries k fault
IsWalkFault code entries (NoStep k) = LacksStep code entries k
IsWalkFault code entries (JumpEnds k) = EndsJump code entries k
IsWalkFault code entries NoSteps = length entries < 2
IsWalkFault code entries OutOfMemory = Unit {0}
IsWalkFault code entries (NoNumber k) = ⊥
IsWalkFault code entries (Executable fault) = ⊥

-- The trace tells the last steps of a log over an executable.
pub record IsRecordedOneHart (exe log trace : List ℕ) : Type 0 where
  pub read : first_failure (checks Exec exe) ≡ None
  pub entries : List LogLine
  pub lines : AreEntries IsAddressEntry log entries
  pub records : RecordsOneHart (built exe) (last_entries entries) trace

-- why there is none
abbrev pub IsRefusedOneHart : List ℕ → List ℕ → SimLogRefusal → Type 0
IsRefusedOneHart exe log (Executable fault) = first_failure (checks Exec exe) ≡ Some fault
IsRefusedOneHart exe log (NoNumber k) = IsNoEntry IsAddressEntry log k
IsRefusedOneHart exe log (NoInstruction k fault) = (entries : List LogLine) × AreEntries IsAddressEntry log entries × LacksInstruction (built exe) (last_entries entries) k fault
IsRefusedOneHart exe log (NoStep k) = (entries : List LogLine) × AreEntries IsAddressEntry log entries × LacksStep (built exe) (last_entries entries) k
IsRefusedOneHart exe log (JumpEnds k) = (entries : List LogLine) × AreEntries IsAddressEntry log entries × EndsJump (built exe) (last_entries entries) k
IsRefusedOneHart exe log NoSteps = (entries : List LogLine) × AreEntries IsAddressEntry log entries × (length (last_entries entries) < 2)
IsRefusedOneHart exe log OutOfMemory = Unit {0}
