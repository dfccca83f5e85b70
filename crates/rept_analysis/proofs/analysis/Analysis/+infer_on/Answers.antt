use Rattle.std.proofs.Common.{subst}
use Rattle.rept_facts.specs.State.{Whole, state_of}
use Rattle.rept_facts.specs.Inferring.{Grows}
use Rattle.rept_facts.proofs.Conclusion.{Grows_trans}
use Rattle.rept_analysis.proofs.analysis.Analysis.+infer_on.Goals as goal

pub returns-in_err-infer_fresh_back-clause-grows : goal.returns-in_err-infer_fresh_back-clause-grows
returns-in_err-infer_fresh_back-clause-grows g t c = subst (λ (x : Whole g.row.B.Denot g.row.W.Denot g.row.R.Denot). Grows (state_of g.W.Partial.sets g.W.Transfer.moves g.R.RowRules.rules g.B.ByteFacts.store x) (state_of g.W.Partial.sets g.W.Transfer.moves g.R.RowRules.rules g.B.ByteFacts.store c.infer_fresh_back.new.self.propagation.facts)) c.note_pass.ensures (Grows_trans _ _ _ c.in_ok-infer_onward.ensures.grows c.infer_fresh_back.ensures.grows)

pub returns-clause-grows : goal.returns-clause-grows
returns-clause-grows g t c = subst (λ (x : Whole g.row.B.Denot g.row.W.Denot g.row.R.Denot). Grows (state_of g.W.Partial.sets g.W.Transfer.moves g.R.RowRules.rules g.B.ByteFacts.store x) (state_of g.W.Partial.sets g.W.Transfer.moves g.R.RowRules.rules g.B.ByteFacts.store c.infer_on.new.self.propagation.facts)) c.note_pass.ensures (Grows_trans _ _ _ (Grows_trans _ _ _ c.in_ok-infer_onward.ensures.grows c.in_ok-infer_fresh_back.ensures.grows) c.infer_on.ensures.grows)
