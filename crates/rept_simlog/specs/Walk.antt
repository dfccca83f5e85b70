-- The steps that entries of a log tell over the code of a program.
use Rattle.std.specs.Prelude.{◌≡◌, ℕ, ◌+◌, ◌<◌, List, [], ◌∷◌, ◌++◌, length, slice_get, Some, Ok, Err}
use Rattle.rept_isa.specs.declared.instr.Instr.{Instr}
use Rattle.rept_isa.specs.declared.row.StepRow.{StepRow}
use Rattle.rept_steps.specs.Linked.{EndBefore}
use Rattle.rept_trace.specs.Stream.{header, plain}
use Rattle.rept_path.specs.declared.fault.PathFault.{PathFault}
use Rattle.rept_path.specs.Code.{Code, look, is_short}
use Rattle.rept_path.specs.Traced.{IsTracedPath}
use Rattle.rept_encode.specs.Walkable.{IsFirstJumpEnd}
use Rattle.rept_encode.specs.Added as added
use Rattle.rept_encode.specs.Added.{AskedStep, asked_of}
use Rattle.rept_simlog.specs.declared.entry.LogLine.{LogLine}
use Rattle.rept_simlog.specs.Program.{site_of}

-- The row is the step from one entry to another, by the instruction that stands there.
pub record IsStepBetween (code : Code) (from to : LogLine) (row : StepRow) : Type 0 where
  pub at : row.at ≡ from.address
  pub next : row.next ≡ to.address
  pub instr : look code row.at ≡ Ok row.instr
  pub short : row.short ≡ is_short code row.at

-- One row was added, the step between two entries.
pub record AddsRow (code : Code) (old new : List StepRow) (from to : LogLine) : Type 0 where
  pub row : StepRow
  pub rows : new ≡ old ++ row ∷ []
  pub step : IsStepBetween code from to row

-- Each row is the step from its entry to the next one.
abbrev pub Along : Code → List LogLine → List StepRow → Type 0
Along code entries rows = (i : ℕ) (row : StepRow) (from to : LogLine) → slice_get rows i ≡ Some row → slice_get entries i ≡ Some from → slice_get entries (i + 1) ≡ Some to → IsStepBetween code from to row

-- The rows are the steps of all entries: they go along their addresses, and end at the last one.
pub record GoAlong (code : Code) (entries : List LogLine) (rows : List StepRow) : Type 0 where
  pub count : length rows + 1 ≡ length entries
  pub along : Along code entries rows
  pub ends : (last : LogLine) → slice_get entries (length rows) ≡ Some last → EndBefore rows last.address

-- the step of an instruction from one entry to another
abbrev pub step_asked : Code → Instr → LogLine → LogLine → AskedStep
step_asked code instr from to = asked_of code.halves (site_of code from.address instr) to.address

-- An instruction stands at the first entry's address, and may lead to the second one's.
pub record MayStep (code : Code) (from to : LogLine) : Type 0 where
  pub instr : Instr
  pub looked : look code from.address ≡ Ok instr
  pub may : added.MayAddStep (step_asked code instr from to)

-- The code can go along the first entries, so many steps.
abbrev pub MayGo : Code → List LogLine → ℕ → Type 0
MayGo code entries count = (i : ℕ) (from to : LogLine) → i < count → slice_get entries i ≡ Some from → slice_get entries (i + 1) ≡ Some to → MayStep code from to

-- The entry of this line number is the first one from which the code can't go on, since it has no
-- instruction at its address, by this fault; the last entry needs none.
pub record LacksInstruction (code : Code) (entries : List LogLine) (number : ℕ) (fault : PathFault) : Type 0 where
  pub i : ℕ
  pub entry : LogLine
  pub there : slice_get entries i ≡ Some entry
  pub early : i + 1 < length entries
  pub first : MayGo code entries i
  pub line : entry.line ≡ number
  pub looked : look code entry.address ≡ Err fault

-- The entry of this line number is the first one to which the code can't come from the one before
-- it.
pub record LacksStep (code : Code) (entries : List LogLine) (number : ℕ) : Type 0 where
  pub i : ℕ
  pub from : LogLine
  pub to : LogLine
  pub instr : Instr
  pub there : slice_get entries i ≡ Some from
  pub next : slice_get entries (i + 1) ≡ Some to
  pub first : MayGo code entries i
  pub line : to.line ≡ number
  pub looked : look code from.address ≡ Ok instr
  pub none : added.MayAddStep (step_asked code instr from to) → ⊥

-- The entry of this line number is the first call that directly follows an uninferable jump.
pub record EndsJump (code : Code) (entries : List LogLine) (number : ℕ) : Type 0 where
  pub rows : List StepRow
  pub along : GoAlong code entries rows
  pub i : ℕ
  pub first : IsFirstJumpEnd rows i
  pub entry : LogLine
  pub there : slice_get entries i ≡ Some entry
  pub line : entry.line ≡ number

-- In this code the trace, whose header says whether it may be compressed, tells the steps of the
-- entries, from its first packet on to the last address, and none is skipped.
pub record RecordsOneHart (code : Code) (entries : List LogLine) (trace : List ℕ) : Type 0 where
  pub rows : List StepRow
  pub along : GoAlong code entries rows
  pub rest : List ℕ
  pub layout : trace ≡ header code.halves ++ rest
  pub path : (last : LogLine) → slice_get entries (length rows) ≡ Some last → IsTracedPath (record { code = code; stream = plain code.halves rest; from = 0; pc = last.address }) 0 rows
