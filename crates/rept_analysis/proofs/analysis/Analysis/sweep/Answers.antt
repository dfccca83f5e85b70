use Rattle.std.proofs.Common.{Bool, sym, subst}
use Rattle.rept_facts.specs.State.{AnalysisState, state_of}
use Rattle.rept_facts.specs.Inferring.{HasInferred, LastKnownBelow, LastBytesKnown, RowsClosed, AllCarried, SinglesKnown, IsInferredAll}
use Rattle.rept_propagate.specs.Likeness.{IsCurrent}
use Rattle.rept_facts.proofs.Begun.{begun_after}
use Rattle.rept_facts.proofs.Conclusion.{HasInferred_second, HasInferred_loud, Grows_trans}
use Rattle.rept_facts.proofs.Listing.{writings_after}
use Rattle.rept_analysis.proofs.analysis.Analysis.sweep.Goals as goal

pub returns-then-fresh-clause-inferred : goal.returns-then-fresh-clause-inferred
returns-then-fresh-clause-inferred g c =
    let a = state_of g.W.Partial.sets g.W.Transfer.moves g.R.RowRules.rules g.B.ByteFacts.store c.args.self.now.propagation.facts in
    let b = state_of g.W.Partial.sets g.W.Transfer.moves g.R.RowRules.rules g.B.ByteFacts.store c.sweep_fresh.new.self.propagation.facts in
    let P : AnalysisState g.row.W.Denot → Type 0 = λ x. LastKnownBelow 32 x × LastBytesKnown x × SinglesKnown x in
    subst (λ (x : Bool). HasInferred a b x IsInferredAll) c.if-fresh.true (HasInferred_loud a b c.in_ok-fresh.fresh P IsInferredAll c.if-fresh.true c.in_ok-fresh.ensures.inferred)

pub carry_through-requires-clause-writings : goal.carry_through-requires-clause-writings
carry_through-requires-clause-writings g c = writings_after (state_of g.W.Partial.sets g.W.Transfer.moves g.R.RowRules.rules g.B.ByteFacts.store c.args.self.now.propagation.facts) (state_of g.W.Partial.sets g.W.Transfer.moves g.R.RowRules.rules g.B.ByteFacts.store c.sweep_fresh.new.self.propagation.facts) c.in_ok-fresh.ensures.grows c.requires.writings

pub returns-in_err-carried-clause-grows : goal.returns-in_err-carried-clause-grows
returns-in_err-carried-clause-grows g c = Grows_trans _ _ _ c.in_ok-fresh.ensures.grows c.carry_through.ensures.grows

pub returns-in_err-carried-clause-begun : goal.returns-in_err-carried-clause-begun
returns-in_err-carried-clause-begun g c = λ h. begun_after (state_of g.W.Partial.sets g.W.Transfer.moves g.R.RowRules.rules g.B.ByteFacts.store c.sweep_fresh.new.self.propagation.facts) (state_of g.W.Partial.sets g.W.Transfer.moves g.R.RowRules.rules g.B.ByteFacts.store c.carry_through.new.self.propagation.facts) c.carry_through.ensures.grows (c.in_ok-fresh.ensures.begun h)

pub returns-then-carried-clause-grows : goal.returns-then-carried-clause-grows
returns-then-carried-clause-grows g c = Grows_trans _ _ _ c.in_ok-fresh.ensures.grows c.in_ok-carried.ensures.grows

pub returns-then-carried-clause-inferred : goal.returns-then-carried-clause-inferred
returns-then-carried-clause-inferred g c =
    let a = state_of g.W.Partial.sets g.W.Transfer.moves g.R.RowRules.rules g.B.ByteFacts.store c.args.self.now.propagation.facts in
    let b = state_of g.W.Partial.sets g.W.Transfer.moves g.R.RowRules.rules g.B.ByteFacts.store c.sweep_fresh.new.self.propagation.facts in
    let d = state_of g.W.Partial.sets g.W.Transfer.moves g.R.RowRules.rules g.B.ByteFacts.store c.carry_through.new.self.propagation.facts in
    let P : AnalysisState g.row.W.Denot → Type 0 = λ x. LastKnownBelow 32 x × LastBytesKnown x × SinglesKnown x in
    let Q : AnalysisState g.row.W.Denot → Type 0 = λ x. P x × AllCarried x in
    let both = HasInferred_second a b d c.in_ok-fresh.fresh c.in_ok-carried.carried P AllCarried Q c.if-fresh.false c.in_ok-fresh.ensures.grows c.in_ok-fresh.ensures.inferred c.in_ok-carried.ensures.inferred (λ p q. (p, q)) in
    subst (λ (x : Bool). HasInferred a d x IsInferredAll) c.if-carried.true (HasInferred_loud a d c.in_ok-carried.carried Q IsInferredAll c.if-carried.true both)

pub returns-then-carried-clause-begun : goal.returns-then-carried-clause-begun
returns-then-carried-clause-begun g c = λ h. begun_after (state_of g.W.Partial.sets g.W.Transfer.moves g.R.RowRules.rules g.B.ByteFacts.store c.sweep_fresh.new.self.propagation.facts) (state_of g.W.Partial.sets g.W.Transfer.moves g.R.RowRules.rules g.B.ByteFacts.store c.carry_through.new.self.propagation.facts) c.in_ok-carried.ensures.grows (c.in_ok-fresh.ensures.begun h)

pub infer_back-requires-clause-writings : goal.infer_back-requires-clause-writings
infer_back-requires-clause-writings g c = writings_after (state_of g.W.Partial.sets g.W.Transfer.moves g.R.RowRules.rules g.B.ByteFacts.store c.args.self.now.propagation.facts) (state_of g.W.Partial.sets g.W.Transfer.moves g.R.RowRules.rules g.B.ByteFacts.store c.carry_through.new.self.propagation.facts) (Grows_trans _ _ _ c.in_ok-fresh.ensures.grows c.in_ok-carried.ensures.grows) c.requires.writings

pub infer_back-requires-clause-uncut : goal.infer_back-requires-clause-uncut
infer_back-requires-clause-uncut g c = c.in_ok-carried.ensures.inferred.uncut (c.in_ok-fresh.ensures.inferred.uncut c.requires.uncut)

pub returns-in_err-rows-clause-grows : goal.returns-in_err-rows-clause-grows
returns-in_err-rows-clause-grows g c = Grows_trans _ _ _ c.in_ok-fresh.ensures.grows (Grows_trans _ _ _ c.in_ok-carried.ensures.grows c.infer_back.ensures.grows)

pub returns-in_err-rows-clause-begun : goal.returns-in_err-rows-clause-begun
returns-in_err-rows-clause-begun g c = λ h. begun_after (state_of g.W.Partial.sets g.W.Transfer.moves g.R.RowRules.rules g.B.ByteFacts.store c.sweep_fresh.new.self.propagation.facts) (state_of g.W.Partial.sets g.W.Transfer.moves g.R.RowRules.rules g.B.ByteFacts.store c.infer_back.new.self.propagation.facts) (Grows_trans _ _ _ c.in_ok-carried.ensures.grows c.infer_back.ensures.grows) (c.in_ok-fresh.ensures.begun h)

pub returns-clause-grows : goal.returns-clause-grows
returns-clause-grows g c = Grows_trans _ _ _ c.in_ok-fresh.ensures.grows (Grows_trans _ _ _ c.in_ok-carried.ensures.grows c.in_ok-rows.ensures.grows)

pub returns-clause-inferred : goal.returns-clause-inferred
returns-clause-inferred g c =
    let a = state_of g.W.Partial.sets g.W.Transfer.moves g.R.RowRules.rules g.B.ByteFacts.store c.args.self.now.propagation.facts in
    let b = state_of g.W.Partial.sets g.W.Transfer.moves g.R.RowRules.rules g.B.ByteFacts.store c.sweep_fresh.new.self.propagation.facts in
    let d = state_of g.W.Partial.sets g.W.Transfer.moves g.R.RowRules.rules g.B.ByteFacts.store c.carry_through.new.self.propagation.facts in
    let e = state_of g.W.Partial.sets g.W.Transfer.moves g.R.RowRules.rules g.B.ByteFacts.store c.infer_back.new.self.propagation.facts in
    let P : AnalysisState g.row.W.Denot → Type 0 = λ x. LastKnownBelow 32 x × LastBytesKnown x × SinglesKnown x in
    let Q : AnalysisState g.row.W.Denot → Type 0 = λ x. P x × AllCarried x in
    let both = HasInferred_second a b d c.in_ok-fresh.fresh c.in_ok-carried.carried P AllCarried Q c.if-fresh.false c.in_ok-fresh.ensures.grows c.in_ok-fresh.ensures.inferred c.in_ok-carried.ensures.inferred (λ p q. (p, q)) in
    HasInferred_second a d e c.in_ok-carried.carried c.in_ok-rows.rows Q RowsClosed IsInferredAll c.if-carried.false (Grows_trans _ _ _ c.in_ok-fresh.ensures.grows c.in_ok-carried.ensures.grows) both c.in_ok-rows.ensures.inferred (λ p q. record { last = p.0.0; rows = q; bytes = p.0.1; carried = λ x m w at. p.1 x at c.requires.exact m w; singles = p.0.2 })

pub returns-clause-begun : goal.returns-clause-begun
returns-clause-begun g c = λ h. begun_after (state_of g.W.Partial.sets g.W.Transfer.moves g.R.RowRules.rules g.B.ByteFacts.store c.sweep_fresh.new.self.propagation.facts) (state_of g.W.Partial.sets g.W.Transfer.moves g.R.RowRules.rules g.B.ByteFacts.store c.infer_back.new.self.propagation.facts) (Grows_trans _ _ _ c.in_ok-carried.ensures.grows c.in_ok-rows.ensures.grows) (c.in_ok-fresh.ensures.begun h)

pub carry_through-requires-clause-current : goal.carry_through-requires-clause-current
carry_through-requires-clause-current g c = subst (λ (x : AnalysisState g.row.W.Denot). IsCurrent x) (sym (c.in_ok-fresh.ensures.inferred.unchanged c.if-fresh.false)) c.requires.current

pub carry_through-requires-clause-uncut : goal.carry_through-requires-clause-uncut
carry_through-requires-clause-uncut g c = c.in_ok-fresh.ensures.inferred.uncut c.requires.uncut
