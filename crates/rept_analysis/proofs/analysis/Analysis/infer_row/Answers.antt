use Rattle.std.proofs.Common.{sym, ◌∙◌}
use Rattle.rept_facts.specs.State.{state_of}
use Rattle.rept_facts.specs.Inferring.{IsRowInferred, IsRowClosed}
use Rattle.rept_facts.proofs.Conclusion.{HasInferred_if, HasInferred_same}
use Rattle.rept_facts.proofs.Following.{row_closed, none_closed}
use Rattle.rept_analysis.proofs.analysis.Analysis.infer_row.Goals as goal

pub returns-in-None-clause-inferred : goal.returns-in-None-clause-inferred
returns-in-None-clause-inferred g c = HasInferred_same (state_of g.W.Partial.sets g.W.Transfer.moves g.R.RowRules.rules g.B.ByteFacts.store c.args.self.now.propagation.facts) (IsRowClosed c.args.i) (none_closed (state_of g.W.Partial.sets g.W.Transfer.moves g.R.RowRules.rules g.B.ByteFacts.store c.args.self.now.propagation.facts) c.args.i (sym c.row.ensures.row ∙ c.in-None.is))

pub returns-in-Some-clause-inferred : goal.returns-in-Some-clause-inferred
returns-in-Some-clause-inferred g c = HasInferred_if _ _ c.infer_all.result (IsRowInferred c.in-Some.row c.args.i) (IsRowClosed c.args.i) c.infer_all.ensures.inferred (λ h. row_closed (state_of g.W.Partial.sets g.W.Transfer.moves g.R.RowRules.rules g.B.ByteFacts.store c.args.self.now.propagation.facts) c.args.i c.in-Some.row (sym c.row.ensures.row ∙ c.in-Some.is) h.registers h.tracked h.inferred)
