use Rattle.std.proofs.Common.{◌||◌, sym, subst}
use Rattle.rept_facts.specs.State.{AnalysisState, Whole, state_of}
use Rattle.rept_facts.specs.Inferring.{Grows, HasInferred, IsRowTracked, InferredKnown}
use Rattle.rept_facts.proofs.Conclusion.{HasInferred_both, Grows_trans}
use Rattle.rept_facts.proofs.Listing.{writings_after}
use Rattle.rept_analysis.proofs.analysis.Analysis.infer_bytes.Goals as goal

pub track_row-requires-clause-writings : goal.track_row-requires-clause-writings
track_row-requires-clause-writings g c = writings_after (state_of g.W.Partial.sets g.W.Transfer.moves g.R.RowRules.rules g.B.ByteFacts.store c.args.self.now.propagation.facts) (state_of g.W.Partial.sets g.W.Transfer.moves g.R.RowRules.rules g.B.ByteFacts.store c.fetch.new.self.propagation.facts) c.in_ok-fetched.ensures.grows c.requires.writings

pub returns-in_err-tracked-clause-grows : goal.returns-in_err-tracked-clause-grows
returns-in_err-tracked-clause-grows g c = Grows_trans _ _ _ c.in_ok-fetched.ensures.grows c.track_row.ensures.grows

pub infer_around-requires-clause-tracked : goal.infer_around-requires-clause-tracked
infer_around-requires-clause-tracked g c = c.in_ok-tracked.ensures.tracked

pub infer_around-requires-clause-uncut : goal.infer_around-requires-clause-uncut
infer_around-requires-clause-uncut g c = c.in_ok-tracked.ensures.inferred.uncut (c.in_ok-fetched.ensures.inferred.uncut c.requires.uncut)

pub infer_around-requires-clause-writings : goal.infer_around-requires-clause-writings
infer_around-requires-clause-writings g c = writings_after (state_of g.W.Partial.sets g.W.Transfer.moves g.R.RowRules.rules g.B.ByteFacts.store c.args.self.now.propagation.facts) (state_of g.W.Partial.sets g.W.Transfer.moves g.R.RowRules.rules g.B.ByteFacts.store c.track_row.new.self.propagation.facts) (Grows_trans _ _ _ c.in_ok-fetched.ensures.grows c.in_ok-tracked.ensures.grows) c.requires.writings

pub returns-in_err-inferred-clause-grows : goal.returns-in_err-inferred-clause-grows
returns-in_err-inferred-clause-grows g c = Grows_trans _ _ _ c.in_ok-fetched.ensures.grows (Grows_trans _ _ _ c.in_ok-tracked.ensures.grows c.infer_around.ensures.grows)

pub returns-clause-grows : goal.returns-clause-grows
returns-clause-grows g c = subst (λ (x : Whole g.row.B.Denot g.row.W.Denot g.row.R.Denot). Grows (state_of g.W.Partial.sets g.W.Transfer.moves g.R.RowRules.rules g.B.ByteFacts.store c.args.self.now.propagation.facts) (state_of g.W.Partial.sets g.W.Transfer.moves g.R.RowRules.rules g.B.ByteFacts.store x)) (sym c.note_row.ensures) (Grows_trans _ _ _ c.in_ok-fetched.ensures.grows (Grows_trans _ _ _ c.in_ok-tracked.ensures.grows c.in_ok-inferred.ensures.grows))

pub returns-clause-inferred : goal.returns-clause-inferred
returns-clause-inferred g c =
    let row = c.args.row.now in
    let i = c.args.i in
    let a = (state_of g.W.Partial.sets g.W.Transfer.moves g.R.RowRules.rules g.B.ByteFacts.store c.args.self.now.propagation.facts) in
    let f = (state_of g.W.Partial.sets g.W.Transfer.moves g.R.RowRules.rules g.B.ByteFacts.store c.fetch.new.self.propagation.facts) in
    let d = (state_of g.W.Partial.sets g.W.Transfer.moves g.R.RowRules.rules g.B.ByteFacts.store c.track_row.new.self.propagation.facts) in
    let e = (state_of g.W.Partial.sets g.W.Transfer.moves g.R.RowRules.rules g.B.ByteFacts.store c.infer_around.new.self.propagation.facts) in
    let g1 = c.in_ok-fetched.ensures.grows in
    let g2 = Grows_trans a f d g1 c.in_ok-tracked.ensures.grows in
    let one = HasInferred_both a f d c.in_ok-fetched.fetched c.in_ok-tracked.tracked (λ (x : AnalysisState g.row.W.Denot). Unit {0}) (IsRowTracked row i) (λ (x : AnalysisState g.row.W.Denot). Unit {0}) g1 c.in_ok-tracked.ensures.grows c.in_ok-fetched.ensures.inferred c.in_ok-tracked.ensures.inferred (λ p q. tt) in
    subst (λ (x : Whole g.row.B.Denot g.row.W.Denot g.row.R.Denot). HasInferred a (state_of g.W.Partial.sets g.W.Transfer.moves g.R.RowRules.rules g.B.ByteFacts.store x) (c.in_ok-fetched.fetched || c.in_ok-tracked.tracked || c.in_ok-inferred.inferred) (λ (x : AnalysisState g.row.W.Denot). Unit {0})) (sym c.note_row.ensures)
    (HasInferred_both a d e (c.in_ok-fetched.fetched || c.in_ok-tracked.tracked) c.in_ok-inferred.inferred (λ (x : AnalysisState g.row.W.Denot). Unit {0}) (InferredKnown row i) (λ (x : AnalysisState g.row.W.Denot). Unit {0}) g2 c.in_ok-inferred.ensures.grows one c.in_ok-inferred.ensures.inferred (λ p q. tt))
