use Rattle.rept_timeline.specs.Paths.{timeline}
use Rattle.std.proofs.Common.{◌≡◌, ◌<◌, ℕ}
use Rattle.rept_reason.specs.Facts.{told}
use Rattle.rept_report.specs.Log.{oldest}
use Rattle.rept_report.specs.Conflicts.{IsWrongTurn}
use Rattle.rept_facts.specs.State.{setting_of}
use Rattle.rept_facts.proofs.facts.CrashFacts.wrong_turn.Given as goal

abbrev pub invariant-loop-step : goal.invariant-loop-step
invariant-loop-step g l = record {
  right : (i : ℕ) → i < l.step → IsWrongTurn (setting_of g.W.Partial.sets g.W.Transfer.moves g.R.RowRules.rules l.self) (told (oldest l.limit l.self.known.log)) i → ⊥;
  count : l.count ≡ (timeline l.self.paths).legs.count;
}
