-- From stretches and faults to what is recorded of a log.
use Rattle.std.proofs.Common.{ℕ, ◌-◌, List, [], ◌∷◌, length}
use Rattle.std.specs.List.{All}
use Rattle.std.proofs.lemmas.List.Elements.{All-nil, All-cons}
use Rattle.rept_encode.specs.Walkable.{AreStraight}
use Rattle.rept_encode.specs.declared.weaving.stretch.HartStretch.{HartStretch}
use Rattle.rept_simlog.specs.Lines.{AreEntries, last_entries}
use Rattle.rept_simlog.specs.Program.{built}
use Rattle.rept_simlog.specs.declared.hartlog.log.HartLogLine.{HartLogLine}
use Rattle.rept_simlog.specs.declared.hartlog.refusal.HartLogRefusal.{HartLogRefusal}
use Rattle.rept_simlog.specs.declared.hartlog.refusal.HartLogRefusal.TheVariants.{Executable, NoNumbers, NoInstruction, NoStep, JumpEnds, NoSteps, TooLong, OutOfMemory}
use Rattle.rept_simlog.specs.Hartlog.Log.{IsHartEntry}
use Rattle.rept_simlog.specs.Hartlog.Steps.{Logged}
use Rattle.rept_simlog.specs.Hartlog.Stretches.{AreStretches}
use Rattle.rept_simlog.specs.Hartlog.Recorded.{IsNotRecorded, IsRefusedSeveralHarts}

-- no call within a stretch
pub all_straight : (logged : List Logged) (stretches : List HartStretch) → AreStretches logged stretches → All (λ (s : HartStretch). AreStraight s.steps (length s.steps - 1)) stretches
all_straight logged [] cut = All-nil (λ (s : HartStretch). AreStraight s.steps (length s.steps - 1))
all_straight logged (s ∷ stretches) cut = All-cons (λ (s : HartStretch). AreStraight s.steps (length s.steps - 1)) s stretches cut.3.straight (all_straight cut.1 stretches cut.4)

-- why the last entries of a log aren't recorded
pub stopped : (exe log : List ℕ) (entries : List HartLogLine) (r : HartLogRefusal) → AreEntries IsHartEntry log entries → IsNotRecorded (built exe) (last_entries entries) r → IsRefusedSeveralHarts exe log r
stopped exe log entries (NoInstruction k fault) lines h = (entries, lines, h)
stopped exe log entries (NoStep k) lines h = (entries, lines, h)
stopped exe log entries (JumpEnds k) lines h = (entries, lines, h)
stopped exe log entries NoSteps lines h = (entries, lines, h)
stopped exe log entries TooLong lines h = (entries, lines, h)
stopped exe log entries OutOfMemory lines h = tt
stopped exe log entries (NoNumbers k) lines h = absurd h
stopped exe log entries (Executable fault) lines h = absurd h
