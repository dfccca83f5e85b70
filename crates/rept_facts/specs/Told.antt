-- What learning one fact does to an analysis, by the answer. This project's own.
use Rattle.std.specs.Prelude.{◌≡◌, ◌≢◌, ℕ, Bool, true, false, Result, Ok, Err}
use Rattle.std.specs.declared.alloc.AllocError.{AllocError}
use Rattle.rept_reason.specs.declared.fact.Fact.{Fact}
use Rattle.rept_reason.specs.declared.fact.Cell.TheVariants.{Byte}
use Rattle.rept_log.specs.declared.answer.LearnOutcome.{LearnOutcome}
use Rattle.rept_log.specs.declared.answer.LearnOutcome.TheVariants.{Old, New, Clash}
use Rattle.rept_facts.specs.State.{AnalysisState, IsRoomy}
use Rattle.rept_versions.specs.declared.facts.Carried.{Carried}
use Rattle.rept_versions.specs.declared.facts.Carried.TheVariants.{Same, More, Stop}
use Rattle.rept_versions.specs.Facts.{Carry}
use Rattle.rept_report.specs.Why.{fact_of}
use Rattle.rept_facts.specs.Inferring.{Knows, IsTracked, Grows, HasNews, IsClash, IsSpreadTo}
use Rattle.rept_facts.specs.Begun.{IsLogWith}

-- the fact is known now, and wasn't
pub record IsNewlyTold {W : Type 0} (old new : AnalysisState W) (f : Fact) : Type 0 where
  pub grows : Grows old new
  pub news : HasNews old new
  pub here : Knows f.point f.cell f.value new
  pub still : new.work ≡ old.work
  pub log : IsLogWith f old.known.log new.known.log

-- what learning it did, by the answer: it was known, it was new, or another value of its cell was
-- known
abbrev pub ToldAs : {W : Type 0} → AnalysisState W → AnalysisState W → Fact → LearnOutcome → Type 0
ToldAs old new f Old = (new ≡ old) × Knows f.point f.cell f.value old
ToldAs old new f New = IsNewlyTold old new f
ToldAs old new f (Clash w) = (new ≡ old) × Knows f.point f.cell w old × (w ≢ f.value)

-- the same of a fact on a byte, for which memory may run out
abbrev pub ByteToldAs : {W : Type 0} → AnalysisState W → AnalysisState W → Fact → Result LearnOutcome AllocError → Type 0
ByteToldAs old new f (Ok answer) = ToldAs old new f answer
ByteToldAs old new f (Err e) = (new ≡ old) × (IsRoomy new → ⊥)

-- the address is tracked now
abbrev pub Tracks : {W : Type 0} → AnalysisState W → AnalysisState W → ℕ → Result Bool AllocError → Type 0
Tracks old new a (Ok true) = Grows old new × HasNews old new × IsTracked a new × (new.known.log ≡ old.known.log) × (new.known.store.fact ≡ old.known.store.fact) × (new.work ≡ old.work)
Tracks old new a (Ok false) = (new ≡ old) × IsTracked a old
Tracks old new a (Err e) = (new ≡ old) × (IsRoomy new → ⊥)

-- what carrying a byte's value from a point to another one does, by the answer
abbrev pub Sends : {W : Type 0} → AnalysisState W → AnalysisState W → Carry → Result Carried AllocError → Type 0
Sends old new course (Ok Same) = (new ≡ old) × IsSpreadTo course old
Sends old new course (Ok More) = Grows old new × HasNews old new × (new.work ≡ old.work)
Sends old new course (Ok (Stop p known found)) = Grows old new × IsClash new (fact_of p (Byte course.address) course.value) found × (known ≡ course.value)
Sends old new course (Err e) = Grows old new × (IsRoomy new → ⊥)
