use Rattle.rept_timeline.specs.Paths.{timeline}
use Rattle.std.proofs.Common.{◌+◌, ◌≤◌, arith}
use Rattle.rept_facts.specs.State.{state_of}
use Rattle.rept_facts.specs.Inferring.{PointSingles, SinglesBelow, SinglesKnown}
use Rattle.rept_facts.proofs.Conclusion.{HasInferred_both, HasInferred_as, Grows_trans, one_more}
use Rattle.rept_facts.proofs.Following.{fitted_after}
use Rattle.rept_analysis.proofs.analysis.Analysis.infer_singles.Goals as goal

pub infer_point-requires-clause-fitted : goal.infer_point-requires-clause-fitted
infer_point-requires-clause-fitted g c = fitted_after (state_of g.W.Partial.sets g.W.Transfer.moves g.R.RowRules.rules g.B.ByteFacts.store c.args.self.now.propagation.facts) (state_of g.W.Partial.sets g.W.Transfer.moves g.R.RowRules.rules g.B.ByteFacts.store c.loop-point.self.propagation.facts) c.loop-point.invariant.grows c.requires.fitted

pub returns-in_err-new-clause-grows : goal.returns-in_err-new-clause-grows
returns-in_err-new-clause-grows g c = Grows_trans _ _ _ c.loop-point.invariant.grows c.infer_point.ensures.grows

pub loop-point-preserved : goal.loop-point-preserved
loop-point-preserved g c = record {
  grows = Grows_trans _ _ _ c.loop-point.invariant.grows c.in_ok-new.ensures.grows;
  inferred = HasInferred_both (state_of g.W.Partial.sets g.W.Transfer.moves g.R.RowRules.rules g.B.ByteFacts.store c.args.self.now.propagation.facts) (state_of g.W.Partial.sets g.W.Transfer.moves g.R.RowRules.rules g.B.ByteFacts.store c.loop-point.self.propagation.facts) _ c.loop-point.learnt c.in_ok-new.new (SinglesBelow c.loop-point.point) (PointSingles 32 c.loop-point.point) (SinglesBelow (c.loop-point.point + 1))
      c.loop-point.invariant.grows c.in_ok-new.ensures.grows c.loop-point.invariant.inferred c.in_ok-new.ensures.inferred (λ below at_p. one_more (λ p. PointSingles 32 p (state_of g.W.Partial.sets g.W.Transfer.moves g.R.RowRules.rules g.B.ByteFacts.store c.args.self.now.propagation.facts)) c.loop-point.point below at_p);
  count = c.loop-point.invariant.count;
}

pub returns-clause-inferred : goal.returns-clause-inferred
returns-clause-inferred g c =
    let count = c.loop-point.invariant.count in
    let passed : (timeline c.args.self.now.propagation.facts.paths).legs.count + 1 ≤ c.loop-point.point = omega (arith, count) in
    HasInferred_as _ _ c.loop-point.learnt (SinglesBelow c.loop-point.point) SinglesKnown c.loop-point.invariant.inferred (λ h p lt. h p (omega (arith, passed, lt)))
