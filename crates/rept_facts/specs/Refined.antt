-- How a call that learns all that follows may end. This project's own.
use Rattle.std.specs.Prelude.{◌≡◌, ℕ, ◌<◌, ◌⊎◌, ⊤, true, length, nat_lt, if◌then◌else◌, Some, None, Result, Ok, Err}
use Rattle.rept_reason.specs.declared.fact.Cell.{Cell}
use Rattle.rept_reason.specs.Facts.{told}
use Rattle.rept_report.specs.declared.conflict.ConflictKind.{ConflictKind}
use Rattle.rept_report.specs.declared.conflict.ConflictKind.TheVariants.{TwoValues}
use Rattle.rept_report.specs.Conflicts.{IsQuiet, Shows}
use Rattle.rept_report.specs.Closure.{ClosureHas}
use Rattle.rept_report.specs.Log.{oldest}
use Rattle.rept_facts.specs.declared.stop.Stop.{Stop}
use Rattle.rept_facts.specs.declared.stop.Stop.TheVariants.{Conflict, OutOfMemory}
use Rattle.rept_reason.specs.declared.fact.Fact.{Fact}
use Rattle.rept_facts.specs.State.{AnalysisState, along}
use Rattle.rept_facts.specs.Inferring.{Knows, IsClash}
use Rattle.rept_facts.specs.Kept.{register_answer, IsFinished}

-- each prefix of the log that is shorter than this leaves no set empty and no turn wrong
abbrev pub QuietBelow : {W : Type 0} → AnalysisState W → ℕ → Type 0
QuietBelow s t = (u : ℕ) → u < t → IsQuiet (along s.path) (told (oldest u s.known.log))

-- what was answered of registers still is
abbrev pub KeepsAnswers : {W : Type 0} → AnalysisState W → AnalysisState W → Type 0
KeepsAnswers old new = (p r v : ℕ) → register_answer old p r ≡ Some v → register_answer new p r ≡ Some v

-- all that was known still is
abbrev pub KeepsKnown : {W : Type 0} → AnalysisState W → AnalysisState W → Type 0
KeepsKnown old new = (p : ℕ) (c : Cell) (v : ℕ) → Knows p c v old → Knows p c v new

-- the conflict of two values, the smaller one first
abbrev pub clash_kind : ℕ → Cell → ℕ → ℕ → ConflictKind
clash_kind p c v w = if nat_lt v w then TwoValues p c v w else TwoValues p c w v

-- a fact that follows contradicts what is known, and this conflict is of the two
pub record IsClashOf {W : Type 0} (s : AnalysisState W) (kind : ConflictKind) : Type 0 where
  pub fact : Fact
  pub known : ℕ
  pub clash : IsClash s fact known
  pub named : kind ≡ clash_kind fact.point fact.cell known fact.value

-- The oldest t facts show this conflict and no fewer show any, or t is all of them, and one that
-- follows from them contradicts one of them.
pub record ShowsTo {W : Type 0} (s : AnalysisState W) (t : ℕ) (kind : ConflictKind) : Type 0 where
  pub quiet : QuietBelow s t
  pub shows : Shows (along s.path) (told (oldest t s.known.log)) kind ⊎ ((t ≡ length s.known.log) × IsClashOf s kind)

-- all is learnt
pub record IsEnded {W : Type 0} (old new : AnalysisState W) : Type 0 where
  pub path : new.path ≡ old.path
  pub complete : new.complete ≡ true
  pub conflict : new.conflict ≡ None
  pub finished : IsFinished new
  pub kept : KeepsAnswers old new
  pub more : KeepsKnown old new

-- the closure has a conflict, which is kept, and where none was known the facts that are answered
-- show it
pub record IsStopped {W : Type 0} (old new : AnalysisState W) (kind : ConflictKind) : Type 0 where
  pub path : new.path ≡ old.path
  pub recorded : new.conflict ≡ Some kind
  pub has : ClosureHas (along old.path) kind
  pub kept : KeepsAnswers old new
  pub more : KeepsKnown old new
  pub shown : old.conflict ≡ None → ShowsTo new new.shown kind

-- memory ran out: all facts of the log are answered, and a later call goes on
pub record IsPaused {W : Type 0} (old new : AnalysisState W) : Type 0 where
  pub path : new.path ≡ old.path
  pub complete : new.complete ≡ old.complete
  pub conflict : new.conflict ≡ old.conflict
  pub kept : KeepsAnswers old new
  pub more : KeepsKnown old new
  pub whole : new.shown ≡ length new.known.log

abbrev pub IsHalted : {W : Type 0} → AnalysisState W → AnalysisState W → Stop → Type 0
IsHalted old new (Conflict kind) = IsStopped old new kind
IsHalted old new OutOfMemory = IsPaused old new

abbrev pub Outcome : {W : Type 0} → AnalysisState W → AnalysisState W → Result ⊤ Stop → Type 0
Outcome old new (Ok u) = IsEnded old new
Outcome old new (Err stop) = IsHalted old new stop
