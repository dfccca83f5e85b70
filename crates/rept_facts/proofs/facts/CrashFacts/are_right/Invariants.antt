use Rattle.std.proofs.Common.{◌-◌, ◌<◌, ℕ, length}
use Rattle.rept_reason.specs.Facts.{told}
use Rattle.rept_span.specs.Points.{HasPoint}
use Rattle.rept_report.specs.Log.{oldest}
use Rattle.rept_report.specs.Conflicts.{IsWrongTurn}
use Rattle.rept_facts.specs.State.{setting_of}
use Rattle.rept_facts.proofs.facts.CrashFacts.are_right.Given as goal

abbrev pub invariant-loop-point : goal.invariant-loop-point
invariant-loop-point g l = (i : ℕ) → i < l.from → HasPoint l.points i → IsWrongTurn (setting_of g.W.Partial.sets g.W.Transfer.moves g.R.RowRules.rules l.self) (told (oldest l.limit l.self.known.log)) i → ⊥

abbrev pub decreases-loop-point : goal.decreases-loop-point
decreases-loop-point g l = length l.points - l.from
