use Rattle.std.proofs.Common.{◌||◌}
use Rattle.rept_facts.specs.State.{AnalysisState, state_of}
use Rattle.rept_facts.specs.Inferring.{LastByteKnown}
use Rattle.rept_facts.proofs.Conclusion.{HasInferred_both, HasInferred_first, Grows_trans}
use Rattle.rept_facts.proofs.Listing.{writings_after}
use Rattle.rept_analysis.proofs.analysis.Analysis.infer_dump.Goals as goal

pub carry_around-requires-clause-writings : goal.carry_around-requires-clause-writings
carry_around-requires-clause-writings g c = writings_after (state_of g.W.Partial.sets g.W.Transfer.moves g.R.RowRules.rules g.B.ByteFacts.store c.args.self.now.propagation.facts) (state_of g.W.Partial.sets g.W.Transfer.moves g.R.RowRules.rules g.B.ByteFacts.store c.infer_last_byte.new.self.propagation.facts) c.in_ok-told.ensures.grows c.requires.writings

pub returns-in_err-carried-clause-grows : goal.returns-in_err-carried-clause-grows
returns-in_err-carried-clause-grows g c = Grows_trans _ _ _ c.in_ok-told.ensures.grows c.carry_around.ensures.grows

pub returns-then-not-carried-clause-grows : goal.returns-then-not-carried-clause-grows
returns-then-not-carried-clause-grows g c = Grows_trans _ _ _ c.in_ok-told.ensures.grows c.in_ok-carried.ensures.grows

pub returns-then-not-carried-clause-inferred : goal.returns-then-not-carried-clause-inferred
returns-then-not-carried-clause-inferred g c =
    HasInferred_first (state_of g.W.Partial.sets g.W.Transfer.moves g.R.RowRules.rules g.B.ByteFacts.store c.args.self.now.propagation.facts) (state_of g.W.Partial.sets g.W.Transfer.moves g.R.RowRules.rules g.B.ByteFacts.store c.infer_last_byte.new.self.propagation.facts) (state_of g.W.Partial.sets g.W.Transfer.moves g.R.RowRules.rules g.B.ByteFacts.store c.carry_around.new.self.facts) c.in_ok-told.told c.in_ok-carried.carried (LastByteKnown c.args.a) (λ (x : AnalysisState g.row.W.Denot). Unit {0}) (λ (x : AnalysisState g.row.W.Denot). Unit {0})
    c.in_ok-carried.ensures.grows c.if-not-carried.true c.in_ok-told.ensures.inferred c.in_ok-carried.ensures.inferred (λ p q. tt)

pub carry_away-requires-clause-writings : goal.carry_away-requires-clause-writings
carry_away-requires-clause-writings g c = writings_after (state_of g.W.Partial.sets g.W.Transfer.moves g.R.RowRules.rules g.B.ByteFacts.store c.args.self.now.propagation.facts) (state_of g.W.Partial.sets g.W.Transfer.moves g.R.RowRules.rules g.B.ByteFacts.store c.carry_around.new.self.facts) (Grows_trans (state_of g.W.Partial.sets g.W.Transfer.moves g.R.RowRules.rules g.B.ByteFacts.store c.args.self.now.propagation.facts) (state_of g.W.Partial.sets g.W.Transfer.moves g.R.RowRules.rules g.B.ByteFacts.store c.infer_last_byte.new.self.propagation.facts) (state_of g.W.Partial.sets g.W.Transfer.moves g.R.RowRules.rules g.B.ByteFacts.store c.carry_around.new.self.facts) c.in_ok-told.ensures.grows c.in_ok-carried.ensures.grows) c.requires.writings

pub returns-in_err-away-clause-grows : goal.returns-in_err-away-clause-grows
returns-in_err-away-clause-grows g c = Grows_trans _ _ _ (Grows_trans _ _ _ c.in_ok-told.ensures.grows c.in_ok-carried.ensures.grows) c.carry_away.ensures.grows

pub returns-clause-grows : goal.returns-clause-grows
returns-clause-grows g c = Grows_trans _ _ _ (Grows_trans _ _ _ c.in_ok-told.ensures.grows c.in_ok-carried.ensures.grows) c.in_ok-away.ensures.grows

pub returns-clause-inferred : goal.returns-clause-inferred
returns-clause-inferred g c =
    let both = HasInferred_both (state_of g.W.Partial.sets g.W.Transfer.moves g.R.RowRules.rules g.B.ByteFacts.store c.args.self.now.propagation.facts) (state_of g.W.Partial.sets g.W.Transfer.moves g.R.RowRules.rules g.B.ByteFacts.store c.infer_last_byte.new.self.propagation.facts) (state_of g.W.Partial.sets g.W.Transfer.moves g.R.RowRules.rules g.B.ByteFacts.store c.carry_around.new.self.facts) c.in_ok-told.told c.in_ok-carried.carried (LastByteKnown c.args.a) (λ (x : AnalysisState g.row.W.Denot). Unit {0}) (λ (x : AnalysisState g.row.W.Denot). Unit {0}) c.in_ok-told.ensures.grows c.in_ok-carried.ensures.grows c.in_ok-told.ensures.inferred c.in_ok-carried.ensures.inferred (λ p q. tt) in
    HasInferred_both (state_of g.W.Partial.sets g.W.Transfer.moves g.R.RowRules.rules g.B.ByteFacts.store c.args.self.now.propagation.facts) (state_of g.W.Partial.sets g.W.Transfer.moves g.R.RowRules.rules g.B.ByteFacts.store c.carry_around.new.self.facts) (state_of g.W.Partial.sets g.W.Transfer.moves g.R.RowRules.rules g.B.ByteFacts.store c.carry_away.new.self.facts) (c.in_ok-told.told || c.in_ok-carried.carried) c.in_ok-away.away (λ (x : AnalysisState g.row.W.Denot). Unit {0}) (λ (x : AnalysisState g.row.W.Denot). Unit {0}) (λ (x : AnalysisState g.row.W.Denot). Unit {0})
    (Grows_trans (state_of g.W.Partial.sets g.W.Transfer.moves g.R.RowRules.rules g.B.ByteFacts.store c.args.self.now.propagation.facts) (state_of g.W.Partial.sets g.W.Transfer.moves g.R.RowRules.rules g.B.ByteFacts.store c.infer_last_byte.new.self.propagation.facts) (state_of g.W.Partial.sets g.W.Transfer.moves g.R.RowRules.rules g.B.ByteFacts.store c.carry_around.new.self.facts) c.in_ok-told.ensures.grows c.in_ok-carried.ensures.grows) c.in_ok-away.ensures.grows both c.in_ok-away.ensures.inferred (λ p q. tt)
