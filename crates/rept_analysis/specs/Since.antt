-- What rounds do that go only where something became known. This project's own.
use Rattle.std.specs.Prelude.{◌+◌, ◌≤◌}
use Rattle.rept_reason.specs.Facts.{told}
use Rattle.rept_report.specs.Conflicts.{IsQuiet}
use Rattle.rept_report.specs.Log.{oldest}
use Rattle.rept_facts.specs.Begun.{HasEndsFirst}
use Rattle.rept_facts.specs.Inferring.{Continues}
use Rattle.rept_facts.specs.Measure.{measure}
use Rattle.rept_facts.specs.Refined.{KeepsKnown}
use Rattle.rept_facts.specs.State.{AnalysisState, along}
use Rattle.rept_facts.specs.Work.{left}

-- the facts of which the sets are leave no range empty and no turn wrong
abbrev pub IsFilledQuiet : {W : Type 0} → AnalysisState W → Type 0
IsFilledQuiet s = IsQuiet (along s.path) (told (oldest s.filled s.known.log))

-- another state of the same analysis, which knows no less, and in which no more is left to be
-- learnt; its sets, and the rows that are listed, may be those of other facts
pub record GoesFurther {W : Type 0} (old new : AnalysisState W) : Type 0 where
  pub continues : Continues old new
  pub more : KeepsKnown old new
  pub spent : new.work.infers + left new.work.inferred ≤ old.work.infers + left old.work.inferred
  pub measured : measure new ≤ measure old
  pub begun : HasEndsFirst old → HasEndsFirst new
