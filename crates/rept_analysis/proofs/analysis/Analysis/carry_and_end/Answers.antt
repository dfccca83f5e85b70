use Rattle.std.proofs.Common.{Bool, subst}
use Rattle.std.proofs.lemmas.Result.{IfOk-weaker}
use Rattle.rept_facts.specs.State.{AnalysisState, state_of}
use Rattle.rept_facts.specs.Inferring.{HasInferred, LastBytesKnown}
use Rattle.rept_facts.proofs.Conclusion.{HasInferred_loud, HasInferred_second, Grows_trans}
use Rattle.rept_analysis.proofs.analysis.Analysis.carry_and_end.Goals as goal

pub returns-then-carried-clause-inferred : goal.returns-then-carried-clause-inferred
returns-then-carried-clause-inferred g c =
    let a = state_of g.W.Partial.sets g.W.Transfer.moves g.R.RowRules.rules g.B.ByteFacts.store c.args.self.now.propagation.facts in
    let b = state_of g.W.Partial.sets g.W.Transfer.moves g.R.RowRules.rules g.B.ByteFacts.store c.carry_all_told.new.self.facts in
    let U : AnalysisState g.row.W.Denot → Type 0 = λ x. Unit {0} in
    subst (λ (x : Bool). HasInferred a b x LastBytesKnown) c.if-carried.true (HasInferred_loud a b c.in_ok-carried.carried U LastBytesKnown c.if-carried.true c.in_ok-carried.ensures.inferred)

pub returns-clause-grows : goal.returns-clause-grows
returns-clause-grows g c = Grows_trans _ _ _ c.in_ok-carried.ensures.grows c.infer_last_bytes.ensures.grows

pub returns-clause-inferred : goal.returns-clause-inferred
returns-clause-inferred g c =
    let a = state_of g.W.Partial.sets g.W.Transfer.moves g.R.RowRules.rules g.B.ByteFacts.store c.args.self.now.propagation.facts in
    let b = state_of g.W.Partial.sets g.W.Transfer.moves g.R.RowRules.rules g.B.ByteFacts.store c.carry_all_told.new.self.facts in
    let d = state_of g.W.Partial.sets g.W.Transfer.moves g.R.RowRules.rules g.B.ByteFacts.store c.infer_last_bytes.new.self.propagation.facts in
    let U : AnalysisState g.row.W.Denot → Type 0 = λ x. Unit {0} in
    IfOk-weaker c.infer_last_bytes.result (λ y. HasInferred b d y LastBytesKnown) (λ y. HasInferred a d y LastBytesKnown) (λ y h. HasInferred_second a b d c.in_ok-carried.carried y U LastBytesKnown LastBytesKnown c.if-carried.false c.in_ok-carried.ensures.grows c.in_ok-carried.ensures.inferred h (λ p q. q)) c.infer_last_bytes.ensures.inferred
