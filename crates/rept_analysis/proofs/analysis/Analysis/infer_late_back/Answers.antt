use Rattle.rept_facts.specs.State.{AnalysisState, state_of}
use Rattle.rept_facts.proofs.Conclusion.{HasInferred_both, Grows_trans}
use Rattle.rept_analysis.proofs.analysis.Analysis.infer_late_back.Goals as goal

pub returns-in_err-new-clause-grows : goal.returns-in_err-new-clause-grows
returns-in_err-new-clause-grows g c = Grows_trans _ _ _ c.loop-end.invariant.grows c.infer_late_at.ensures.grows

pub infer_late_at-requires-clause-uncut : goal.infer_late_at-requires-clause-uncut
infer_late_at-requires-clause-uncut g c = c.loop-end.invariant.inferred.uncut c.requires.uncut

pub infer_late_at-requires-clause-writings : goal.infer_late_at-requires-clause-writings
infer_late_at-requires-clause-writings g c = c.loop-end.invariant.grows.writing c.requires.writings

pub loop-end-preserved : goal.loop-end-preserved
loop-end-preserved g c =
    let P : AnalysisState g.row.W.Denot → Type 0 = λ x. Unit {0} in
    record {
      grows = Grows_trans _ _ _ c.loop-end.invariant.grows c.in_ok-new.ensures.grows;
      inferred = HasInferred_both (state_of g.W.Partial.sets g.W.Transfer.moves g.R.RowRules.rules g.B.ByteFacts.store c.args.self.now.propagation.facts) (state_of g.W.Partial.sets g.W.Transfer.moves g.R.RowRules.rules g.B.ByteFacts.store c.loop-end.self.propagation.facts) _ c.loop-end.learnt c.in_ok-new.new P P P c.loop-end.invariant.grows c.in_ok-new.ensures.grows c.loop-end.invariant.inferred c.in_ok-new.ensures.inferred (λ _ _. tt);
    }
