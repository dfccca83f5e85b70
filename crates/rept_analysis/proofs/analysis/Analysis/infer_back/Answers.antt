use Rattle.rept_timeline.specs.Paths.{timeline}
use Rattle.std.proofs.Common.{◌-◌, arith}
use Rattle.rept_facts.specs.State.{state_of}
use Rattle.rept_facts.specs.Inferring.{IsRowClosed, RowsClosed}
use Rattle.rept_facts.proofs.Conclusion.{HasInferred_both, HasInferred_as, Grows_trans, RowsClosedFrom, one_before}
use Rattle.rept_facts.proofs.Listing.{writings_after}
use Rattle.rept_analysis.proofs.analysis.Analysis.infer_back.Goals as goal

pub returns-in_err-new-clause-grows : goal.returns-in_err-new-clause-grows
returns-in_err-new-clause-grows g c = Grows_trans _ _ _ c.loop-i.invariant.grows c.infer_noted.ensures.grows

pub infer_noted-requires-clause-uncut : goal.infer_noted-requires-clause-uncut
infer_noted-requires-clause-uncut g c = c.loop-i.invariant.inferred.uncut c.requires.uncut

pub infer_noted-requires-clause-writings : goal.infer_noted-requires-clause-writings
infer_noted-requires-clause-writings g c = writings_after (state_of g.W.Partial.sets g.W.Transfer.moves g.R.RowRules.rules g.B.ByteFacts.store c.args.self.now.propagation.facts) (state_of g.W.Partial.sets g.W.Transfer.moves g.R.RowRules.rules g.B.ByteFacts.store c.loop-i.self.propagation.facts) c.loop-i.invariant.grows c.requires.writings

pub loop-i-preserved : goal.loop-i-preserved
loop-i-preserved g c = record {
  grows = Grows_trans _ _ _ c.loop-i.invariant.grows c.in_ok-new.ensures.grows;
  inferred = HasInferred_both (state_of g.W.Partial.sets g.W.Transfer.moves g.R.RowRules.rules g.B.ByteFacts.store c.args.self.now.propagation.facts) (state_of g.W.Partial.sets g.W.Transfer.moves g.R.RowRules.rules g.B.ByteFacts.store c.loop-i.self.propagation.facts) _ c.loop-i.learnt c.in_ok-new.new (RowsClosedFrom c.loop-i.i) (IsRowClosed (c.loop-i.i - 1)) (RowsClosedFrom (c.loop-i.i - 1))
      c.loop-i.invariant.grows c.in_ok-new.ensures.grows c.loop-i.invariant.inferred c.in_ok-new.ensures.inferred (λ above here. one_before (λ j. IsRowClosed j (state_of g.W.Partial.sets g.W.Transfer.moves g.R.RowRules.rules g.B.ByteFacts.store c.args.self.now.propagation.facts)) c.loop-i.i ((timeline c.args.self.now.propagation.facts.paths).legs.count) above here);
}

pub returns-clause-inferred : goal.returns-clause-inferred
returns-clause-inferred g c = HasInferred_as (state_of g.W.Partial.sets g.W.Transfer.moves g.R.RowRules.rules g.B.ByteFacts.store c.args.self.now.propagation.facts) _ c.loop-i.learnt (RowsClosedFrom c.loop-i.i) RowsClosed c.loop-i.invariant.inferred (λ h j inside. h j (omega arith) inside)
