use Rattle.std.proofs.Common.{Bool, subst}
use Rattle.std.proofs.lemmas.Bool.{true≢false}
use Rattle.rept_facts.specs.State.{state_of}
use Rattle.rept_facts.specs.Inferring.{HasInferred, InferredKnown}
use Rattle.rept_facts.proofs.Conclusion.{Grows_trans, news_then}
use Rattle.rept_facts.proofs.Listing.{writings_after}
use Rattle.rept_analysis.proofs.analysis.Analysis.infer_around.Goals as goal

pub returns-then-not-inferred-clause-inferred : goal.returns-then-not-inferred-clause-inferred
returns-then-not-inferred-clause-inferred g c = subst (λ (x : Bool). HasInferred (state_of g.W.Partial.sets g.W.Transfer.moves g.R.RowRules.rules g.B.ByteFacts.store c.args.self.now.propagation.facts) (state_of g.W.Partial.sets g.W.Transfer.moves g.R.RowRules.rules g.B.ByteFacts.store c.infer_inferred.new.self.propagation.facts) x (InferredKnown c.args.row.now c.args.i)) c.if-not-inferred.true c.in_ok-inferred.ensures.inferred

pub free-requires-clause-writings : goal.free-requires-clause-writings
free-requires-clause-writings g c = writings_after (state_of g.W.Partial.sets g.W.Transfer.moves g.R.RowRules.rules g.B.ByteFacts.store c.args.self.now.propagation.facts) (state_of g.W.Partial.sets g.W.Transfer.moves g.R.RowRules.rules g.B.ByteFacts.store c.infer_inferred.new.self.propagation.facts) c.in_ok-inferred.ensures.grows c.requires.writings

pub carry_row-requires-clause-writings : goal.carry_row-requires-clause-writings
carry_row-requires-clause-writings g c = writings_after (state_of g.W.Partial.sets g.W.Transfer.moves g.R.RowRules.rules g.B.ByteFacts.store c.args.self.now.propagation.facts) (state_of g.W.Partial.sets g.W.Transfer.moves g.R.RowRules.rules g.B.ByteFacts.store c.free.new.self) (Grows_trans _ _ _ c.in_ok-inferred.ensures.grows c.free.ensures.grows) c.requires.writings

pub returns-in_err-carry_row-clause-grows : goal.returns-in_err-carry_row-clause-grows
returns-in_err-carry_row-clause-grows g c = Grows_trans _ _ _ c.in_ok-inferred.ensures.grows (Grows_trans _ _ _ c.free.ensures.grows c.carry_row.ensures.grows)

pub returns-clause-grows : goal.returns-clause-grows
returns-clause-grows g c = Grows_trans _ _ _ c.in_ok-inferred.ensures.grows (Grows_trans _ _ _ c.free.ensures.grows c.in_ok-carry_row.ensures.grows)

pub returns-clause-inferred : goal.returns-clause-inferred
returns-clause-inferred g c =
    let a = (state_of g.W.Partial.sets g.W.Transfer.moves g.R.RowRules.rules g.B.ByteFacts.store c.args.self.now.propagation.facts) in
    let b = (state_of g.W.Partial.sets g.W.Transfer.moves g.R.RowRules.rules g.B.ByteFacts.store c.infer_inferred.new.self.propagation.facts) in
    let f = (state_of g.W.Partial.sets g.W.Transfer.moves g.R.RowRules.rules g.B.ByteFacts.store c.free.new.self) in
    let d = (state_of g.W.Partial.sets g.W.Transfer.moves g.R.RowRules.rules g.B.ByteFacts.store c.carry_row.new.self.propagation.facts) in
    record {
      news = λ _. news_then a b d (Grows_trans b f d c.free.ensures.grows c.in_ok-carry_row.ensures.grows) (c.in_ok-inferred.ensures.inferred.news c.if-not-inferred.false);
      unchanged = λ e. absurd (true≢false e);
      closed = λ e. absurd (true≢false e);
      uncut = λ u. c.in_ok-carry_row.ensures.inferred.uncut (c.free.ensures.uncut (c.in_ok-inferred.ensures.inferred.uncut u));
    }
