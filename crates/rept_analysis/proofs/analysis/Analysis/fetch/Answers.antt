use Rattle.std.proofs.Common.{Bool, IfOk, subst}
use Rattle.rept_facts.specs.State.{AnalysisState, Whole, state_of}
use Rattle.rept_facts.specs.Inferring.{Grows, HasInferred}
use Rattle.rept_analysis.proofs.analysis.Analysis.fetch.Goals as goal

pub returns-clause-grows : goal.returns-clause-grows
returns-clause-grows g c = subst (λ (x : Whole g.row.B.Denot g.row.W.Denot g.row.R.Denot). Grows (state_of g.W.Partial.sets g.W.Transfer.moves g.R.RowRules.rules g.B.ByteFacts.store x) (state_of g.W.Partial.sets g.W.Transfer.moves g.R.RowRules.rules g.B.ByteFacts.store c.fetch_bytes.new.self.propagation.facts)) c.lacks_byte.ensures c.fetch_bytes.ensures.grows

pub returns-clause-inferred : goal.returns-clause-inferred
returns-clause-inferred g c =
    let d = state_of g.W.Partial.sets g.W.Transfer.moves g.R.RowRules.rules g.B.ByteFacts.store c.fetch_bytes.new.self.propagation.facts in
    let P : AnalysisState g.row.W.Denot → Type 0 = λ x. Unit {0} in
    subst (λ (x : Whole g.row.B.Denot g.row.W.Denot g.row.R.Denot). IfOk c.fetch_bytes.result (λ (y : Bool). HasInferred (state_of g.W.Partial.sets g.W.Transfer.moves g.R.RowRules.rules g.B.ByteFacts.store x) d y P)) c.lacks_byte.ensures c.fetch_bytes.ensures.inferred
