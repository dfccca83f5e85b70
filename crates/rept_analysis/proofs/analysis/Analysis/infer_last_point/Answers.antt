use Rattle.std.proofs.Common.{◌+◌, ◌≤◌, arith}
use Rattle.rept_facts.specs.State.{state_of}
use Rattle.rept_facts.specs.Begun.{HasEndsAlone}
use Rattle.rept_facts.specs.Inferring.{LastKnownAt, LastPointKnown}
use Rattle.rept_facts.proofs.Begun.{any_err, last_point_grows}
use Rattle.rept_facts.proofs.Conclusion.{HasInferred_both, HasInferred_as, HasInferred_same, Grows_itself, Grows_trans, one_more}
use Rattle.rept_analysis.proofs.analysis.Analysis.infer_last_point.Goals as goal

pub returns-in_err-new-clause-grows : goal.returns-in_err-new-clause-grows
returns-in_err-new-clause-grows g c = Grows_trans _ _ _ c.loop-r.invariant.grows c.infer_last.ensures.grows

pub loop-r-init : goal.loop-r-init
loop-r-init g c = record {
  grows = Grows_itself _;
  inferred = HasInferred_same _ _ (λ r less v named e. absurd (omega (arith, less, named)));
  known = λ r less v named e. absurd (omega (arith, less, named));
  ends = λ h. h;
}

pub returns-in_err-new-clause-ends : goal.returns-in_err-new-clause-ends
returns-in_err-new-clause-ends g c = λ h. c.infer_last.ensures.ends (c.loop-r.invariant.ends h)

pub loop-r-preserved : goal.loop-r-preserved
loop-r-preserved g c =
    let here = rw c.register.ensures at c.in_ok-new.ensures.inferred in
    let there = rw c.register.ensures at c.in_ok-new.ensures.known in
    let before = last_point_grows (state_of g.W.Partial.sets g.W.Transfer.moves g.R.RowRules.rules g.B.ByteFacts.store c.loop-r.self.propagation.facts) (state_of g.W.Partial.sets g.W.Transfer.moves g.R.RowRules.rules g.B.ByteFacts.store c.infer_last.new.self.propagation.facts) c.in_ok-new.ensures.grows c.loop-r.r c.args.point c.loop-r.invariant.known in
    record {
      grows = Grows_trans _ _ _ c.loop-r.invariant.grows c.in_ok-new.ensures.grows;
      inferred = HasInferred_both _ _ _ c.loop-r.learnt c.in_ok-new.new (LastPointKnown c.loop-r.r c.args.point) (LastKnownAt c.args.point c.loop-r.r) (LastPointKnown (c.loop-r.r + 1) c.args.point)
          c.loop-r.invariant.grows c.in_ok-new.ensures.grows c.loop-r.invariant.inferred here
          (λ below at_r r inside. one_more (λ s. LastKnownAt c.args.point s (state_of g.W.Partial.sets g.W.Transfer.moves g.R.RowRules.rules g.B.ByteFacts.store c.args.self.now.propagation.facts)) c.loop-r.r below at_r r inside);
      known = λ r inside. one_more (λ s. LastKnownAt c.args.point s (state_of g.W.Partial.sets g.W.Transfer.moves g.R.RowRules.rules g.B.ByteFacts.store c.infer_last.new.self.propagation.facts)) c.loop-r.r before there r inside;
      ends = λ h. c.in_ok-new.ensures.ends (c.loop-r.invariant.ends h);
    }

pub returns-clause-inferred : goal.returns-clause-inferred
returns-clause-inferred g c =
    let passed : 32 ≤ c.loop-r.r = omega arith in
    HasInferred_as _ _ c.loop-r.learnt (LastPointKnown c.loop-r.r c.args.point) (LastPointKnown 32 c.args.point) c.loop-r.invariant.inferred (λ h r inside. h r (omega (arith, passed, inside)))

pub returns-clause-known : goal.returns-clause-known
returns-clause-known g c =
    let passed : 32 ≤ c.loop-r.r = omega arith in
    λ r inside. c.loop-r.invariant.known r (omega (arith, passed, inside))

pub returns-clause-ends : goal.returns-clause-ends
returns-clause-ends g c = c.loop-r.invariant.ends

pub returns-in_err-new-clause-calm : goal.returns-in_err-new-clause-calm
returns-in_err-new-clause-calm g c = any_err c.from_residual.result (HasEndsAlone (state_of g.W.Partial.sets g.W.Transfer.moves g.R.RowRules.rules g.B.ByteFacts.store c.args.self.now.propagation.facts) → ⊥) (λ h. c.in_err-new.ensures.calm (c.loop-r.invariant.ends h))
