use Rattle.rept_facts.specs.State.{state_of}
use Rattle.rept_facts.proofs.Listing.{listed_none}
use Rattle.rept_facts.proofs.facts.CrashFacts.list_at.Goals as goal

pub returns-in-None-clause-listed : goal.returns-in-None-clause-listed
returns-in-None-clause-listed g c = listed_none (state_of g.W.Partial.sets g.W.Transfer.moves g.R.RowRules.rules g.B.ByteFacts.store c.args.self.now) c.args.number c.args.self.now.work.writing c.requires.before c.in-None.ensures
