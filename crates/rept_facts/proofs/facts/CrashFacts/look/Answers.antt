use Rattle.rept_reason.specs.Facts.{told}
use Rattle.rept_report.specs.Log.{oldest}
use Rattle.rept_report.specs.Conflicts.{IsWrongTurn}
use Rattle.rept_log.specs.Known.{Known}
use Rattle.rept_facts.specs.State.{state_of, Subject, along}
use Rattle.rept_facts.proofs.Ending.{back_to}
use Rattle.rept_facts.proofs.facts.CrashFacts.look.Goals as goal

pub returns-in-Ok-clause-quiet : goal.returns-in-Ok-clause-quiet
returns-in-Ok-clause-quiet g c =
    λ e. record {
      full = c.in-Ok.ensures.some;
      right = λ i h. back_to (state_of g.W.Partial.sets g.W.Transfer.moves g.R.RowRules.rules g.B.ByteFacts.store c.args.self.now) (state_of g.W.Partial.sets g.W.Transfer.moves g.R.RowRules.rules g.B.ByteFacts.store c.fill.new.self) c.in-Ok.ensures.same (λ (P : Subject g.row.W.Denot) (k : Known). IsWrongTurn (along P) (told (oldest c.args.limit k.log)) i → ⊥) (c.wrong_turn.ensures.none e i) h;
    }
