use Rattle.std.proofs.Common.{inr, arith}
use Rattle.rept_facts.specs.State.{state_of}
use Rattle.rept_facts.proofs.Following.{brought_follows}
use Rattle.rept_propagate.proofs.propagation.Propagation.tell_across.Goals as goal

pub learn_byte-requires-clause-follows : goal.learn_byte-requires-clause-follows
learn_byte-requires-clause-follows g c = brought_follows (state_of g.W.Partial.sets g.W.Transfer.moves g.R.RowRules.rules g.B.ByteFacts.store c.args.self.now.facts) c.args.to c.args.a c.args.value c.requires.to (omega arith) c.requires.brought

pub learn_byte-requires-clause-brought : goal.learn_byte-requires-clause-brought
learn_byte-requires-clause-brought g c = λ _. c.requires.brought

pub learn_byte-requires-clause-place : goal.learn_byte-requires-clause-place
learn_byte-requires-clause-place g c = inr (λ roomy. c.requires.room roomy.1)
