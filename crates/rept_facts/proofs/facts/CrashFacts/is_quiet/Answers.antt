use Rattle.rept_reason.specs.Facts.{told}
use Rattle.rept_report.specs.Log.{oldest}
use Rattle.rept_report.proofs.Traces.{shown_loud}
use Rattle.rept_facts.specs.State.{setting_of}
use Rattle.rept_facts.proofs.facts.CrashFacts.is_quiet.Goals as goal

pub returns-in-Some-clause-loud : goal.returns-in-Some-clause-loud
returns-in-Some-clause-loud g c = λ _. shown_loud (setting_of g.W.Partial.sets g.W.Transfer.moves g.R.RowRules.rules c.args.self.now) (told (oldest c.args.limit c.args.self.now.known.log)) c.in-Some.field-0 (c.look.ensures.conflict c.in-Some.field-0 c.in-Some.is)
