use Rattle.std.proofs.Common.{ℕ, sym, ap, subst}
use Rattle.rept_facts.specs.State.{Subject, AnalysisState, state_of}
use Rattle.rept_propagate.specs.Steps.{IsStepWithin}
use Rattle.rept_facts.proofs.Conclusion.{HasInferred_both, Grows_trans}
use Rattle.rept_propagate.proofs.propagation.Propagation.follow.Goals as goal

pub follow_with-requires-clause-within : goal.follow_with-requires-clause-within
follow_with-requires-clause-within g c = subst (λ (n : ℕ). IsStepWithin n c.args.step) (sym (ap (λ (P : Subject g.row.W.Denot). P.given.moments.end) c.loop-k.invariant.grows.path)) c.requires.within

pub follow_with-requires-clause-writings : goal.follow_with-requires-clause-writings
follow_with-requires-clause-writings g c = c.loop-k.invariant.grows.writing c.requires.writings

pub returns-in_err-new-clause-grows : goal.returns-in_err-new-clause-grows
returns-in_err-new-clause-grows g c = Grows_trans _ _ _ c.loop-k.invariant.grows c.follow_with.ensures.grows

pub loop-k-preserved : goal.loop-k-preserved
loop-k-preserved g c =
    let s = state_of g.W.Partial.sets g.W.Transfer.moves g.R.RowRules.rules g.B.ByteFacts.store c.args.self.now.facts in
    let t = state_of g.W.Partial.sets g.W.Transfer.moves g.R.RowRules.rules g.B.ByteFacts.store c.loop-k.self.facts in
    let u = state_of g.W.Partial.sets g.W.Transfer.moves g.R.RowRules.rules g.B.ByteFacts.store c.follow_with.new.self.facts in
    let P : AnalysisState g.row.W.Denot → Type 0 = λ x. Unit {0} in
    record {
      grows = Grows_trans s t u c.loop-k.invariant.grows c.in_ok-new.ensures.grows;
      inferred = HasInferred_both s t u c.loop-k.learnt c.in_ok-new.new P P P c.loop-k.invariant.grows c.in_ok-new.ensures.grows c.loop-k.invariant.inferred c.in_ok-new.ensures.inferred (λ p q. tt);
    }
