-- A step that is added to others, and why it isn't.
use Rattle.std.specs.Prelude.{◌≡◌, ℕ, ◌%◌, Bool, false, List, [], ◌∷◌, ◌++◌, length}
use Rattle.rept_isa.specs.declared.row.StepRow.{StepRow}
use Rattle.rept_isa.specs.Rows.{from_at}
use Rattle.rept_path.specs.Code.{flow_of}
use Rattle.rept_encode.specs.declared.step.Site.{Site}
use Rattle.rept_encode.specs.declared.fault.StepFault.{StepFault}
use Rattle.rept_encode.specs.declared.fault.StepFault.TheVariants.{NoStep, Full, OutOfMemory}
use Rattle.rept_encode.specs.Walkable.{alignment_by, MayLead, IsStepped}

-- a step that is asked for: whether code may be compressed, the instruction where it stands, and
-- the next address
pub record AskedStep : Type 0 where
  pub halves : Bool
  pub site : Site
  pub next : ℕ

abbrev pub asked_of : Bool → Site → ℕ → AskedStep
asked_of halves site next = record { halves = halves; site = site; next = next }

-- A hart can make it: the instruction may lead there, stands where one may stand, and is short only
-- where code may be compressed.
pub record MayAddStep (asked : AskedStep) : Type 0 where
  pub lead : MayLead asked.halves (flow_of asked.site.instr) (record { at = asked.site.at; from = from_at asked.site.at asked.site.short; next = asked.next })
  pub aligned : asked.site.at % alignment_by asked.halves ≡ 0
  pub long : asked.halves ≡ false → asked.site.short ≡ false

-- The row is the step.
pub record IsAskedStep (asked : AskedStep) (row : StepRow) : Type 0 where
  pub step : IsStepped asked.halves row
  pub from : row.at ≡ asked.site.at
  pub to : row.next ≡ asked.next
  pub of : row.instr ≡ asked.site.instr
  pub size : row.short ≡ asked.site.short

-- The step was added.
pub record AddsStep (asked : AskedStep) (old new : List StepRow) : Type 0 where
  pub row : StepRow
  pub rows : new ≡ old ++ row ∷ []
  pub is : IsAskedStep asked row

-- why it is not
abbrev pub IsStepFault : AskedStep → List StepRow → StepFault → Type 0
IsStepFault asked rows NoStep = MayAddStep asked → ⊥
IsStepFault asked rows Full = length rows ≡ 65536
IsStepFault asked rows OutOfMemory = Unit {0}
