use Rattle.std.proofs.Common.{sym, subst}
use Rattle.rept_facts.specs.State.{Whole, state_of}
use Rattle.rept_facts.specs.Inferring.{Grows, HasInferred, IsRowClosed}
use Rattle.rept_analysis.proofs.analysis.Analysis.infer_noted.Goals as goal

pub returns-clause-grows : goal.returns-clause-grows
returns-clause-grows g c = subst (λ (x : Whole g.row.B.Denot g.row.W.Denot g.row.R.Denot). Grows (state_of g.W.Partial.sets g.W.Transfer.moves g.R.RowRules.rules g.B.ByteFacts.store c.args.self.now.propagation.facts) (state_of g.W.Partial.sets g.W.Transfer.moves g.R.RowRules.rules g.B.ByteFacts.store x)) (sym c.note_row.ensures) c.in_ok-learnt.ensures.grows

pub returns-clause-inferred : goal.returns-clause-inferred
returns-clause-inferred g c = subst (λ (x : Whole g.row.B.Denot g.row.W.Denot g.row.R.Denot). HasInferred (state_of g.W.Partial.sets g.W.Transfer.moves g.R.RowRules.rules g.B.ByteFacts.store c.args.self.now.propagation.facts) (state_of g.W.Partial.sets g.W.Transfer.moves g.R.RowRules.rules g.B.ByteFacts.store x) c.in_ok-learnt.learnt (IsRowClosed c.args.i)) (sym c.note_row.ensures) c.in_ok-learnt.ensures.inferred
