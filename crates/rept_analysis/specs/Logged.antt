-- In which order the facts of a report were learnt. This project's own.
use Rattle.std.specs.Prelude.{◌≡◌, ℕ, Bool, List}
use Rattle.rept_reason.specs.declared.fact.Fact.{Fact}
use Rattle.rept_reason.specs.declared.fact.Cell.{Cell}
use Rattle.rept_reason.specs.Facts.{Knowledge}
use Rattle.rept_report.specs.Setting.{Setting}
use Rattle.rept_report.specs.Log.{Entry, logged_of}
use Rattle.rept_report.specs.Implied.{HasEnded, known_at_end}

-- A log of what is known: facts, newest first, each of which follows from those before it. With the
-- bytes that no log keeps they are all that follows, and exactly what is known.
pub record IsLogOf {W : Type 0} (S : Setting W) (K : Knowledge) (log : List Fact) : Type 0 where
  pub entries : List Entry
  pub tracked : ℕ → Bool
  pub ended : HasEnded S entries tracked
  pub knows : (p : ℕ) (c : Cell) → known_at_end S entries tracked p c ≡ K p c
  pub logged : logged_of entries ≡ log
