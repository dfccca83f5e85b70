-- What is said while not all is learnt. This project's own.
use Rattle.std.specs.Prelude.{◌≡◌, ℕ, false, ◌==◌, ◌&&◌, if◌then◌else◌, [], Option, None, is_some}
use Rattle.rept_reason.specs.Facts.{told}
use Rattle.rept_report.specs.Conflicts.{IsQuiet}
use Rattle.rept_report.specs.Log.{oldest}
use Rattle.rept_report.specs.Origin.Logs.{source}
use Rattle.rept_facts.specs.State.{AnalysisState, along}

-- The byte that is told at a point by the facts that are answered; at the last point also the
-- dump's. A conflict that needs no fact leaves the closure without facts: then no byte is answered.
abbrev pub byte_answer : {W : Type 0} → AnalysisState W → ℕ → ℕ → Option ℕ
byte_answer s p a = if is_some s.conflict && s.shown == 0 then None else source (along s.path) (oldest s.shown s.known.log) a p

-- All is learnt, or some fact is answered, or a conflict was found, or the rows alone leave no set
-- empty and no turn wrong.
abbrev pub HasClosure : {W : Type 0} → AnalysisState W → Type 0
HasClosure s = s.complete ≡ false → s.shown ≡ 0 → s.conflict ≡ None → IsQuiet (along s.path) (told [])
