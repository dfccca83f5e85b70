use Rattle.std.proofs.Common.{arith}
use Rattle.rept_span.proofs.Refilling.{first_is}
use Rattle.rept_facts.specs.State.{AnalysisState, state_of}
use Rattle.rept_facts.specs.Inferring.{PointSingles}
use Rattle.rept_facts.proofs.Conclusion.{HasInferred_both, Grows_trans}
use Rattle.rept_facts.proofs.Following.{fitted_after}
use Rattle.rept_analysis.proofs.analysis.Analysis.infer_singles_at.Goals as goal

pub infer_point-requires-clause-point : goal.infer_point-requires-clause-point
infer_point-requires-clause-point g c =
    let next = first_is c.args.points.now c.loop-point.from c.next.result c.in-Some.point c.in-Some.is c.next.ensures.next in
    let inside = next.inside in
    let marks = c.requires.marks in
    let count = c.loop-point.invariant.grows.count in
    omega (arith, inside, marks, count)

pub infer_point-requires-clause-fitted : goal.infer_point-requires-clause-fitted
infer_point-requires-clause-fitted g c = fitted_after (state_of g.W.Partial.sets g.W.Transfer.moves g.R.RowRules.rules g.B.ByteFacts.store c.args.self.now.propagation.facts) (state_of g.W.Partial.sets g.W.Transfer.moves g.R.RowRules.rules g.B.ByteFacts.store c.loop-point.self.propagation.facts) c.loop-point.invariant.grows c.requires.fitted

pub returns-in_err-new-clause-grows : goal.returns-in_err-new-clause-grows
returns-in_err-new-clause-grows g c = Grows_trans _ _ _ c.loop-point.invariant.grows c.infer_point.ensures.grows

pub loop-point-preserved : goal.loop-point-preserved
loop-point-preserved g c =
    let P : AnalysisState g.row.W.Denot → Type 0 = λ x. Unit {0} in
    record {
      grows = Grows_trans _ _ _ c.loop-point.invariant.grows c.in_ok-new.ensures.grows;
      inferred = HasInferred_both (state_of g.W.Partial.sets g.W.Transfer.moves g.R.RowRules.rules g.B.ByteFacts.store c.args.self.now.propagation.facts) (state_of g.W.Partial.sets g.W.Transfer.moves g.R.RowRules.rules g.B.ByteFacts.store c.loop-point.self.propagation.facts) _ c.loop-point.learnt c.in_ok-new.new P (PointSingles 32 c.in-Some.point) P c.loop-point.invariant.grows c.in_ok-new.ensures.grows c.loop-point.invariant.inferred c.in_ok-new.ensures.inferred (λ _ _. tt);
    }

pub loop-point-smaller : goal.loop-point-smaller
loop-point-smaller g c =
    let next = first_is c.args.points.now c.loop-point.from c.next.result c.in-Some.point c.in-Some.is c.next.ensures.next in
    let inside = next.inside in
    let later = next.later in
    omega (arith, inside, later)
