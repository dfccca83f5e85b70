use Rattle.rept_facts.specs.State.{AnalysisState, state_of}
use Rattle.rept_facts.proofs.Conclusion.{HasInferred_both, Grows_trans}
use Rattle.rept_facts.proofs.Listing.{writings_after}
use Rattle.rept_propagate.proofs.propagation.Propagation.carry_far.Goals as goal

pub carry_away-requires-clause-writings : goal.carry_away-requires-clause-writings
carry_away-requires-clause-writings g c = writings_after (state_of g.W.Partial.sets g.W.Transfer.moves g.R.RowRules.rules g.B.ByteFacts.store c.args.self.now.facts) (state_of g.W.Partial.sets g.W.Transfer.moves g.R.RowRules.rules g.B.ByteFacts.store c.loop-k.self.facts) c.loop-k.invariant.grows c.requires.writings

pub returns-in_err-new-clause-grows : goal.returns-in_err-new-clause-grows
returns-in_err-new-clause-grows g c = Grows_trans _ _ _ c.loop-k.invariant.grows c.carry_away.ensures.grows

pub loop-k-preserved : goal.loop-k-preserved
loop-k-preserved g c = record {
  grows = Grows_trans _ _ _ c.loop-k.invariant.grows c.in_ok-new.ensures.grows;
  inferred = HasInferred_both (state_of g.W.Partial.sets g.W.Transfer.moves g.R.RowRules.rules g.B.ByteFacts.store c.args.self.now.facts) (state_of g.W.Partial.sets g.W.Transfer.moves g.R.RowRules.rules g.B.ByteFacts.store c.loop-k.self.facts) _ c.loop-k.learnt c.in_ok-new.new (λ (x : AnalysisState g.row.W.Denot). Unit {0}) (λ (x : AnalysisState g.row.W.Denot). Unit {0}) (λ (x : AnalysisState g.row.W.Denot). Unit {0})
      c.loop-k.invariant.grows c.in_ok-new.ensures.grows c.loop-k.invariant.inferred c.in_ok-new.ensures.inferred (λ p q. tt);
}
