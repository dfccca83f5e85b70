use Rattle.std.proofs.Common.{◌+◌, ◌≤◌, arith}
use Rattle.rept_facts.specs.State.{state_of}
use Rattle.rept_facts.specs.Inferring.{SingleKnown, PointSingles}
use Rattle.rept_facts.proofs.Conclusion.{HasInferred_both, HasInferred_as, Grows_trans, one_more}
use Rattle.rept_facts.proofs.Following.{fitted_after}
use Rattle.rept_analysis.proofs.analysis.Analysis.infer_point.Goals as goal

pub infer_single-requires-clause-fitted : goal.infer_single-requires-clause-fitted
infer_single-requires-clause-fitted g c = fitted_after (state_of g.W.Partial.sets g.W.Transfer.moves g.R.RowRules.rules g.B.ByteFacts.store c.args.self.now.propagation.facts) (state_of g.W.Partial.sets g.W.Transfer.moves g.R.RowRules.rules g.B.ByteFacts.store c.loop-r.self.propagation.facts) c.loop-r.invariant.grows c.requires.fitted

pub returns-in_err-new-clause-grows : goal.returns-in_err-new-clause-grows
returns-in_err-new-clause-grows g c = Grows_trans _ _ _ c.loop-r.invariant.grows c.infer_single.ensures.grows

pub loop-r-preserved : goal.loop-r-preserved
loop-r-preserved g c =
    let here = rw c.register.ensures at c.in_ok-new.ensures.inferred in
    record {
      grows = Grows_trans _ _ _ c.loop-r.invariant.grows c.in_ok-new.ensures.grows;
      inferred = HasInferred_both (state_of g.W.Partial.sets g.W.Transfer.moves g.R.RowRules.rules g.B.ByteFacts.store c.args.self.now.propagation.facts) (state_of g.W.Partial.sets g.W.Transfer.moves g.R.RowRules.rules g.B.ByteFacts.store c.loop-r.self.propagation.facts) _ c.loop-r.learnt c.in_ok-new.new (PointSingles c.loop-r.r c.args.point) (SingleKnown c.args.point c.loop-r.r) (PointSingles (c.loop-r.r + 1) c.args.point)
          c.loop-r.invariant.grows c.in_ok-new.ensures.grows c.loop-r.invariant.inferred here (λ below at_r. one_more (λ s. SingleKnown c.args.point s (state_of g.W.Partial.sets g.W.Transfer.moves g.R.RowRules.rules g.B.ByteFacts.store c.args.self.now.propagation.facts)) c.loop-r.r below at_r);
    }

pub returns-clause-inferred : goal.returns-clause-inferred
returns-clause-inferred g c =
    let passed : 32 ≤ c.loop-r.r = omega arith in
    HasInferred_as _ _ c.loop-r.learnt (PointSingles c.loop-r.r c.args.point) (PointSingles 32 c.args.point) c.loop-r.invariant.inferred (λ h r lt. h r (omega (arith, passed, lt)))
