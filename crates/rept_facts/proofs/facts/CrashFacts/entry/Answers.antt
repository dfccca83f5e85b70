use Rattle.rept_facts.specs.State.{state_of}
use Rattle.rept_facts.proofs.Listing.{entry_early}
use Rattle.rept_facts.proofs.facts.CrashFacts.entry.Goals as goal

pub returns-clause-there : goal.returns-clause-there
returns-clause-there g c = (c.requires.writings.barriers.each c.args.k c.writing_at.result c.writing_at.ensures).there

pub returns-clause-early : goal.returns-clause-early
returns-clause-early g c = entry_early (state_of g.W.Partial.sets g.W.Transfer.moves g.R.RowRules.rules g.B.ByteFacts.store c.args.self.now) c.requires.writings c.args.k c.writing_at.result c.writing_at.ensures
