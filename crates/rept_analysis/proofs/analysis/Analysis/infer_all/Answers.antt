use Rattle.std.proofs.Common.{◌||◌}
use Rattle.rept_facts.specs.State.{AnalysisState, state_of}
use Rattle.rept_facts.specs.Inferring.{KeptBelow, IsRowTracked, InferredKnown, IsRowInferred}
use Rattle.rept_facts.proofs.Conclusion.{HasInferred_both, Grows_trans}
use Rattle.rept_facts.proofs.Listing.{writings_after}
use Rattle.rept_analysis.proofs.analysis.Analysis.infer_all.Goals as goal

pub fetch-requires-clause-writings : goal.fetch-requires-clause-writings
fetch-requires-clause-writings g c = writings_after (state_of g.W.Partial.sets g.W.Transfer.moves g.R.RowRules.rules g.B.ByteFacts.store c.args.self.now.propagation.facts) (state_of g.W.Partial.sets g.W.Transfer.moves g.R.RowRules.rules g.B.ByteFacts.store c.carry_all.new.self.propagation.facts) c.in_ok-registers.ensures.grows c.requires.writings

pub returns-in_err-fetched-clause-grows : goal.returns-in_err-fetched-clause-grows
returns-in_err-fetched-clause-grows g c = Grows_trans _ _ _ c.in_ok-registers.ensures.grows c.fetch.ensures.grows

pub track_row-requires-clause-writings : goal.track_row-requires-clause-writings
track_row-requires-clause-writings g c = writings_after (state_of g.W.Partial.sets g.W.Transfer.moves g.R.RowRules.rules g.B.ByteFacts.store c.args.self.now.propagation.facts) (state_of g.W.Partial.sets g.W.Transfer.moves g.R.RowRules.rules g.B.ByteFacts.store c.fetch.new.self.propagation.facts) (Grows_trans _ _ _ c.in_ok-registers.ensures.grows c.in_ok-fetched.ensures.grows) c.requires.writings

pub returns-in_err-tracked-clause-grows : goal.returns-in_err-tracked-clause-grows
returns-in_err-tracked-clause-grows g c = Grows_trans _ _ _ c.in_ok-registers.ensures.grows (Grows_trans _ _ _ c.in_ok-fetched.ensures.grows c.track_row.ensures.grows)

pub infer_around-requires-clause-tracked : goal.infer_around-requires-clause-tracked
infer_around-requires-clause-tracked g c = c.in_ok-tracked.ensures.tracked

pub infer_around-requires-clause-uncut : goal.infer_around-requires-clause-uncut
infer_around-requires-clause-uncut g c = c.in_ok-tracked.ensures.inferred.uncut (c.in_ok-fetched.ensures.inferred.uncut (c.in_ok-registers.ensures.inferred.uncut c.requires.uncut))

pub infer_around-requires-clause-writings : goal.infer_around-requires-clause-writings
infer_around-requires-clause-writings g c = writings_after (state_of g.W.Partial.sets g.W.Transfer.moves g.R.RowRules.rules g.B.ByteFacts.store c.args.self.now.propagation.facts) (state_of g.W.Partial.sets g.W.Transfer.moves g.R.RowRules.rules g.B.ByteFacts.store c.track_row.new.self.propagation.facts) (Grows_trans _ _ _ c.in_ok-registers.ensures.grows (Grows_trans _ _ _ c.in_ok-fetched.ensures.grows c.in_ok-tracked.ensures.grows)) c.requires.writings

pub returns-in_err-inferred-clause-grows : goal.returns-in_err-inferred-clause-grows
returns-in_err-inferred-clause-grows g c = Grows_trans _ _ _ c.in_ok-registers.ensures.grows (Grows_trans _ _ _ c.in_ok-fetched.ensures.grows (Grows_trans _ _ _ c.in_ok-tracked.ensures.grows c.infer_around.ensures.grows))

pub returns-clause-grows : goal.returns-clause-grows
returns-clause-grows g c = Grows_trans _ _ _ c.in_ok-registers.ensures.grows (Grows_trans _ _ _ c.in_ok-fetched.ensures.grows (Grows_trans _ _ _ c.in_ok-tracked.ensures.grows c.in_ok-inferred.ensures.grows))

pub returns-clause-inferred : goal.returns-clause-inferred
returns-clause-inferred g c =
    let row = c.args.row.now in
    let i = c.args.i in
    let P : AnalysisState g.row.W.Denot → Type 0 = λ x. KeptBelow 32 row i x × IsRowTracked row i x in
    let a = (state_of g.W.Partial.sets g.W.Transfer.moves g.R.RowRules.rules g.B.ByteFacts.store c.args.self.now.propagation.facts) in
    let b = (state_of g.W.Partial.sets g.W.Transfer.moves g.R.RowRules.rules g.B.ByteFacts.store c.carry_all.new.self.propagation.facts) in
    let f = (state_of g.W.Partial.sets g.W.Transfer.moves g.R.RowRules.rules g.B.ByteFacts.store c.fetch.new.self.propagation.facts) in
    let d = (state_of g.W.Partial.sets g.W.Transfer.moves g.R.RowRules.rules g.B.ByteFacts.store c.track_row.new.self.propagation.facts) in
    let e = (state_of g.W.Partial.sets g.W.Transfer.moves g.R.RowRules.rules g.B.ByteFacts.store c.infer_around.new.self.propagation.facts) in
    let g1 = c.in_ok-registers.ensures.grows in
    let g2 = Grows_trans a b f g1 c.in_ok-fetched.ensures.grows in
    let g3 = Grows_trans a f d g2 c.in_ok-tracked.ensures.grows in
    let one = HasInferred_both a b f c.in_ok-registers.registers c.in_ok-fetched.fetched (KeptBelow 32 row i) (λ (x : AnalysisState g.row.W.Denot). Unit {0}) (KeptBelow 32 row i) g1 c.in_ok-fetched.ensures.grows c.in_ok-registers.ensures.inferred c.in_ok-fetched.ensures.inferred (λ p q. p) in
    let two = HasInferred_both a f d (c.in_ok-registers.registers || c.in_ok-fetched.fetched) c.in_ok-tracked.tracked (KeptBelow 32 row i) (IsRowTracked row i) P g2 c.in_ok-tracked.ensures.grows one c.in_ok-tracked.ensures.inferred (λ p q. (p, q)) in
    HasInferred_both a d e (c.in_ok-registers.registers || c.in_ok-fetched.fetched || c.in_ok-tracked.tracked) c.in_ok-inferred.inferred P (InferredKnown row i) (IsRowInferred row i) g3 c.in_ok-inferred.ensures.grows two c.in_ok-inferred.ensures.inferred (λ p q. record { registers = p.0; tracked = p.1; inferred = q })
