use Rattle.std.proofs.Common.{Bool, subst}
use Rattle.std.proofs.lemmas.Bool.{true≢false}
use Rattle.rept_facts.specs.State.{AnalysisState, state_of}
use Rattle.rept_facts.specs.Inferring.{HasInferred}
use Rattle.rept_facts.proofs.Conclusion.{Grows_trans, news_then}
use Rattle.rept_facts.proofs.Listing.{writings_after}
use Rattle.rept_analysis.proofs.analysis.Analysis.infer_through.Goals as goal

pub returns-then-not-back-clause-inferred : goal.returns-then-not-back-clause-inferred
returns-then-not-back-clause-inferred g c = subst (λ (x : Bool). HasInferred (state_of g.W.Partial.sets g.W.Transfer.moves g.R.RowRules.rules g.B.ByteFacts.store c.args.self.now.propagation.facts) (state_of g.W.Partial.sets g.W.Transfer.moves g.R.RowRules.rules g.B.ByteFacts.store c.infer_fresh_back.new.self.propagation.facts) x (λ (y : AnalysisState g.row.W.Denot). Unit {0})) c.if-not-back.true c.in_ok-back.ensures.inferred

pub infer_on-requires-clause-writings : goal.infer_on-requires-clause-writings
infer_on-requires-clause-writings g c = writings_after (state_of g.W.Partial.sets g.W.Transfer.moves g.R.RowRules.rules g.B.ByteFacts.store c.args.self.now.propagation.facts) (state_of g.W.Partial.sets g.W.Transfer.moves g.R.RowRules.rules g.B.ByteFacts.store c.infer_fresh_back.new.self.propagation.facts) c.in_ok-back.ensures.grows c.requires.writings

pub returns-in_err-infer_on-clause-grows : goal.returns-in_err-infer_on-clause-grows
returns-in_err-infer_on-clause-grows g c = Grows_trans _ _ _ c.in_ok-back.ensures.grows c.infer_on.ensures.grows

pub returns-clause-inferred : goal.returns-clause-inferred
returns-clause-inferred g c =
    let a = (state_of g.W.Partial.sets g.W.Transfer.moves g.R.RowRules.rules g.B.ByteFacts.store c.args.self.now.propagation.facts) in
    let b = (state_of g.W.Partial.sets g.W.Transfer.moves g.R.RowRules.rules g.B.ByteFacts.store c.infer_fresh_back.new.self.propagation.facts) in
    record {
      news = λ _. news_then a b _ c.in_ok-infer_on.ensures.grows (c.in_ok-back.ensures.inferred.news c.if-not-back.false);
      unchanged = λ e. absurd (true≢false e);
      closed = λ e. absurd (true≢false e);
      uncut = λ _. c.in_ok-infer_on.ensures.uncut;
    }

pub returns-clause-grows : goal.returns-clause-grows
returns-clause-grows g c = Grows_trans _ _ _ c.in_ok-back.ensures.grows c.in_ok-infer_on.ensures.grows
