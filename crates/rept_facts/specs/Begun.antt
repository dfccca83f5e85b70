-- With which facts a log begins: the last register values of all threads. This project's own.
use Rattle.std.specs.Prelude.{◌≡◌, ℕ, ◌≤◌, ◌==◌, nat_lt, ◌⊎◌, if◌then◌else◌, List, ◌∷◌, length, Option, Some, None}
use Rattle.rept_isa.specs.declared.row.StepRow.{StepRow}
use Rattle.rept_reason.specs.declared.fact.Fact.{Fact}
use Rattle.rept_reason.specs.declared.fact.Cell.TheVariants.{Register, Byte}
use Rattle.rept_reason.specs.Facts.{Knowledge, In, told}
use Rattle.rept_report.specs.Setting.{Setting}
use Rattle.rept_report.specs.Log.{oldest}
use Rattle.rept_facts.specs.State.{AnalysisState, along}

-- the value of a register other than x0 at the last point of a thread, by the row that leads from
-- the point, if one does
abbrev pub value_at_end : Option StepRow → (ℕ → Option ℕ) → ℕ → Option ℕ
value_at_end None values r = if r == 0 then None else values r
value_at_end (Some row) values r = None

-- what the last register values of all threads tell, and nothing else
abbrev pub ends_told : {W : Type 0} → Setting W → Knowledge
ends_told S p (Register r) = if nat_lt S.legs.count p then None else value_at_end (S.legs.row p) (S.last p) r
ends_told S p (Byte a) = None

-- each of these facts is such a value
abbrev pub AreEndFacts : {W : Type 0} → Setting W → List Fact → Type 0
AreEndFacts S facts = (f : Fact) → In facts f → ends_told S f.point f.cell ≡ Some f.value

-- all such values are known
abbrev pub KnowsEnds : {W : Type 0} → Setting W → Knowledge → Type 0
KnowsEnds S K = (p r v : ℕ) → ends_told S p (Register r) ≡ Some v → K p (Register r) ≡ Some v

-- A log, newest first, whose oldest facts are all such values, and nothing else.
pub record BeginsWithEnds {W : Type 0} (S : Setting W) (log : List Fact) : Type 0 where
  pub count : ℕ
  pub within : count ≤ length log
  pub ends : AreEndFacts S (oldest count log)
  pub all : KnowsEnds S (told (oldest count log))

-- nothing but such values was learnt yet
abbrev pub HasEndsAlone : {W : Type 0} → AnalysisState W → Type 0
HasEndsAlone s = AreEndFacts (along s.path) s.known.log

-- all of them were learnt before anything else
abbrev pub HasEndsFirst : {W : Type 0} → AnalysisState W → Type 0
HasEndsFirst s = BeginsWithEnds (along s.path) s.known.log

-- nothing else was learnt before them
abbrev pub LearnsEndsFirst : {W : Type 0} → AnalysisState W → Type 0
LearnsEndsFirst s = HasEndsAlone s ⊎ HasEndsFirst s

-- the log has at most this fact more
abbrev pub IsLogWith : Fact → List Fact → List Fact → Type 0
IsLogWith f old new = (new ≡ old) ⊎ (new ≡ f ∷ old)
