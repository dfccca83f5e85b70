use Rattle.std.proofs.Common.{◌∙◌, sym, arith}
use Rattle.rept_facts.specs.State.{state_of}
use Rattle.rept_facts.proofs.Listing.{hit_blocks}
use Rattle.rept_propagate.proofs.propagation.Propagation.blocks.Goals as goal

pub returns-in-Some : goal.returns-in-Some
returns-in-Some g c = λ yes. hit_blocks (state_of g.W.Partial.sets g.W.Transfer.moves g.R.RowRules.rules g.B.ByteFacts.store c.args.self.now.facts) c.requires.writings c.args.a (omega arith) c.args.m c.args.w c.in-Some.row (rw c.in-Some.is at c.listed_hit.ensures.hits) (sym c.may_act.ensures ∙ yes)
