use Rattle.std.proofs.Common.{Bool, subst}
use Rattle.rept_facts.specs.State.{AnalysisState, state_of}
use Rattle.rept_facts.specs.Inferring.{HasInferred}
use Rattle.rept_facts.proofs.Conclusion.{HasInferred_both, HasInferred_same, Grows_trans}
use Rattle.rept_facts.proofs.Listing.{writings_after}
use Rattle.rept_propagate.proofs.propagation.Propagation.carry_bytes.Goals as goal

pub returns-then-is_first_round-clause-inferred : goal.returns-then-is_first_round-clause-inferred
returns-then-is_first_round-clause-inferred g c = HasInferred_same (state_of g.W.Partial.sets g.W.Transfer.moves g.R.RowRules.rules g.B.ByteFacts.store c.args.self.now.facts) (λ (x : AnalysisState g.row.W.Denot). Unit {0}) tt

pub returns-then-not-near-clause-inferred : goal.returns-then-not-near-clause-inferred
returns-then-not-near-clause-inferred g c = subst (λ (learnt : Bool). HasInferred (state_of g.W.Partial.sets g.W.Transfer.moves g.R.RowRules.rules g.B.ByteFacts.store c.args.self.now.facts) (state_of g.W.Partial.sets g.W.Transfer.moves g.R.RowRules.rules g.B.ByteFacts.store c.carry_near.new.self.facts) learnt (λ (x : AnalysisState g.row.W.Denot). Unit {0})) c.if-not-near.true c.in_ok-near.ensures.inferred

pub carry_far-requires-clause-writings : goal.carry_far-requires-clause-writings
carry_far-requires-clause-writings g c = writings_after (state_of g.W.Partial.sets g.W.Transfer.moves g.R.RowRules.rules g.B.ByteFacts.store c.args.self.now.facts) (state_of g.W.Partial.sets g.W.Transfer.moves g.R.RowRules.rules g.B.ByteFacts.store c.carry_near.new.self.facts) c.in_ok-near.ensures.grows c.requires.writings

pub returns-in_err-far-clause-grows : goal.returns-in_err-far-clause-grows
returns-in_err-far-clause-grows g c = Grows_trans _ _ _ c.in_ok-near.ensures.grows c.carry_far.ensures.grows

pub returns-clause-grows : goal.returns-clause-grows
returns-clause-grows g c = Grows_trans _ _ _ c.in_ok-near.ensures.grows c.in_ok-far.ensures.grows

pub returns-clause-inferred : goal.returns-clause-inferred
returns-clause-inferred g c =
    HasInferred_both (state_of g.W.Partial.sets g.W.Transfer.moves g.R.RowRules.rules g.B.ByteFacts.store c.args.self.now.facts) (state_of g.W.Partial.sets g.W.Transfer.moves g.R.RowRules.rules g.B.ByteFacts.store c.carry_near.new.self.facts) (state_of g.W.Partial.sets g.W.Transfer.moves g.R.RowRules.rules g.B.ByteFacts.store c.carry_far.new.self.facts) c.in_ok-near.near c.in_ok-far.far (λ (x : AnalysisState g.row.W.Denot). Unit {0}) (λ (x : AnalysisState g.row.W.Denot). Unit {0}) (λ (x : AnalysisState g.row.W.Denot). Unit {0})
    c.in_ok-near.ensures.grows c.in_ok-far.ensures.grows c.in_ok-near.ensures.inferred c.in_ok-far.ensures.inferred (λ p q. tt)
