use Rattle.rept_facts.specs.State.{state_of}
use Rattle.rept_facts.proofs.Conclusion.{read_tracked}
use Rattle.rept_propagate.proofs.propagation.Propagation.carry_told.Goals as goal

pub carry_address-requires-clause-tracked : goal.carry_address-requires-clause-tracked
carry_address-requires-clause-tracked g c = read_tracked (state_of g.W.Partial.sets g.W.Transfer.moves g.R.RowRules.rules g.B.ByteFacts.store c.args.self.now.facts) c.args.k c.address-a.result c.address-a.ensures
