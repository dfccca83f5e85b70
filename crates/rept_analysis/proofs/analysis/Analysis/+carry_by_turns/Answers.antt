use Rattle.std.proofs.Common.{true, refl}
use Rattle.rept_facts.specs.State.{AnalysisState, state_of}
use Rattle.rept_facts.specs.Inferring.{LastBytesKnown}
use Rattle.rept_facts.proofs.Conclusion.{HasInferred_further, Grows_trans}
use Rattle.rept_facts.proofs.Listing.{writings_after}
use Rattle.rept_analysis.proofs.analysis.Analysis.+carry_by_turns.Goals as goal

pub infer_through-requires-clause-writings : goal.infer_through-requires-clause-writings
infer_through-requires-clause-writings g t c = writings_after (state_of g.W.Partial.sets g.W.Transfer.moves g.R.RowRules.rules g.B.ByteFacts.store c.args.self.now.propagation.facts) (state_of g.W.Partial.sets g.W.Transfer.moves g.R.RowRules.rules g.B.ByteFacts.store c.carry_and_end.new.self.propagation.facts) c.in_ok-bytes.ensures.grows c.requires.writings

pub infer_through-requires-clause-uncut : goal.infer_through-requires-clause-uncut
infer_through-requires-clause-uncut g t c = c.in_ok-bytes.ensures.inferred.uncut c.requires.uncut

pub returns-in_err-infer_through-clause-grows : goal.returns-in_err-infer_through-clause-grows
returns-in_err-infer_through-clause-grows g t c = Grows_trans _ _ _ c.in_ok-bytes.ensures.grows c.infer_through.ensures.grows

pub returns-in_err-carry_by_turns-clause-grows : goal.returns-in_err-carry_by_turns-clause-grows
returns-in_err-carry_by_turns-clause-grows g t c = Grows_trans _ _ _ (Grows_trans _ _ _ c.in_ok-bytes.ensures.grows c.in_ok-infer_through.ensures.grows) c.carry_by_turns.ensures.grows

pub returns-clause-grows : goal.returns-clause-grows
returns-clause-grows g t c = Grows_trans _ _ _ (Grows_trans _ _ _ c.in_ok-bytes.ensures.grows c.in_ok-infer_through.ensures.grows) c.in_ok-carry_by_turns.ensures.grows

pub returns-clause-inferred : goal.returns-clause-inferred
returns-clause-inferred g t c =
    let U : AnalysisState g.row.W.Denot → Type 0 = λ x. Unit {0} in
    let rows = HasInferred_further (state_of g.W.Partial.sets g.W.Transfer.moves g.R.RowRules.rules g.B.ByteFacts.store c.args.self.now.propagation.facts) (state_of g.W.Partial.sets g.W.Transfer.moves g.R.RowRules.rules g.B.ByteFacts.store c.carry_and_end.new.self.propagation.facts) (state_of g.W.Partial.sets g.W.Transfer.moves g.R.RowRules.rules g.B.ByteFacts.store c.infer_through.new.self.propagation.facts) c.in_ok-bytes.bytes _ LastBytesKnown U U c.in_ok-infer_through.ensures.grows c.if-not-bytes.false c.in_ok-bytes.ensures.inferred c.in_ok-infer_through.ensures.inferred in
    HasInferred_further (state_of g.W.Partial.sets g.W.Transfer.moves g.R.RowRules.rules g.B.ByteFacts.store c.args.self.now.propagation.facts) (state_of g.W.Partial.sets g.W.Transfer.moves g.R.RowRules.rules g.B.ByteFacts.store c.infer_through.new.self.propagation.facts) (state_of g.W.Partial.sets g.W.Transfer.moves g.R.RowRules.rules g.B.ByteFacts.store c.carry_by_turns.new.self.propagation.facts) true _ U LastBytesKnown LastBytesKnown c.in_ok-carry_by_turns.ensures.grows refl rows c.in_ok-carry_by_turns.ensures.inferred
