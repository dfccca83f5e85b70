use Rattle.std.proofs.Common.{sym, ◌∙◌}
use Rattle.rept_reason.specs.Facts.{told}
use Rattle.rept_report.specs.Log.{oldest}
use Rattle.rept_facts.specs.State.{setting_of}
use Rattle.rept_facts.proofs.Answering.{none_may}
use Rattle.rept_facts.proofs.facts.writes.CrashFactsRowWrites.may_write.Goals as goal

pub returns-in-None : goal.returns-in-None
returns-in-None g c = sym (none_may (setting_of g.W.Partial.sets g.W.Transfer.moves g.R.RowRules.rules c.args.self.now) (told (oldest c.args.self.now.filled c.args.self.now.known.log)) c.args.row c.args.a (sym c.row.ensures.row ∙ c.in-None.is))
