-- The stretches that the steps of a log make. All lines of a log are told by one stream, since a
-- log has them in one order.
use Rattle.std.specs.Prelude.{◌≡◌, ℕ, ◌+◌, ◌-◌, ◌<◌, ◌≤◌, List, [], ◌∷◌, ◌++◌, length, map, take, drop, slice_get, Some}
use Rattle.rept_isa.specs.declared.row.StepRow.{StepRow}
use Rattle.rept_path.specs.Code.{Code}
use Rattle.rept_encode.specs.Walkable.{AreStraight, IsFirstJumpEnd}
use Rattle.rept_encode.specs.declared.weaving.stretch.HartStretch.{HartStretch}
use Rattle.rept_encode.specs.declared.weaving.fault.HartPlace.{HartPlace}
use Rattle.rept_simlog.specs.declared.hartlog.log.HartLogLine.{HartLogLine}
use Rattle.rept_simlog.specs.Hartlog.Steps.{Logged, AreLogged, AreLoggedThen}

-- All these steps are of the hart and the thread of an entry, and of lines that follow one another,
-- the first of them so many lines after that of the entry.
abbrev pub AreTogether : HartLogLine → ℕ → List Logged → Type 0
AreTogether first count [] = Unit {0}
AreTogether first count (step ∷ steps) = (step.entry.hart ≡ first.hart) × (step.entry.thread ≡ first.thread) × (step.entry.line ≡ first.line + count) × AreTogether first (count + 1) steps

-- The rows are the steps of so many entries, the first ones, as far as these go on; they are of one
-- hart and one thread, and none but the last is a call.
pub record IsHartPiece (code : Code) (entries : List HartLogLine) (rows : List StepRow) (count : ℕ) : Type 0 where
  pub some : 0 < count
  pub within : count ≤ length entries
  pub logged : List Logged
  pub steps : AreLoggedThen code (take count entries) (drop count entries) logged
  pub rows_of : rows ≡ map (λ (step : Logged). step.row) logged
  pub together : (first : HartLogLine) → slice_get entries 0 ≡ Some first → AreTogether first 0 logged
  pub straight : AreStraight rows (length rows - 1)
  pub few : length rows ≤ count

-- The stretch has these steps, which are of one hart, one thread, and lines that follow one
-- another; none but the last is a call. Its begin and its end are the numbers of the first and the
-- last line, and its process is the thread.
pub record IsStretchOf (steps : List Logged) (stretch : HartStretch) : Type 0 where
  pub first : Logged
  pub others : List Logged
  pub some : steps ≡ first ∷ others
  pub together : AreTogether first.entry 0 steps
  pub rows : stretch.steps ≡ map (λ (step : Logged). step.row) steps
  pub straight : AreStraight stretch.steps (length stretch.steps - 1)
  pub process : stretch.process ≡ first.entry.thread
  pub begin : stretch.begin ≡ first.entry.line
  pub end : stretch.end ≡ first.entry.line + length others

-- The stretches have these steps, in order.
abbrev pub AreStretches : List Logged → List HartStretch → Type 0
AreStretches steps [] = steps ≡ []
AreStretches steps (stretch ∷ stretches) = (front : List Logged) × (later : List Logged) × (steps ≡ front ++ later) × IsStretchOf front stretch × AreStretches later stretches

-- The stretches have the steps of these entries.
pub record AreStretchesOf (code : Code) (entries : List HartLogLine) (stretches : List HartStretch) : Type 0 where
  pub logged : List Logged
  pub steps : AreLogged code entries logged
  pub cut : AreStretches logged stretches

-- The row of this line is the first call of its stretch that directly follows an uninferable jump.
pub record IsJumpEndOf (stretches : List HartStretch) (line : ℕ) : Type 0 where
  pub number : ℕ
  pub stretch : HartStretch
  pub there : slice_get stretches number ≡ Some stretch
  pub step : ℕ
  pub first : IsFirstJumpEnd stretch.steps step
  pub place : line ≡ stretch.begin + step

-- It is the row at this place of the harts that are written.
pub record IsJumpEndAt (harts : List (List HartStretch)) (place : HartPlace) (line : ℕ) : Type 0 where
  pub hart : List HartStretch
  pub there : slice_get harts place.hart ≡ Some hart
  pub end : IsJumpEndOf hart line
