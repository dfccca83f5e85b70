use Rattle.std.proofs.Common.{true, sym, subst, ap, ◌∙◌}
use Rattle.rept_reason.specs.declared.fact.Cell.TheVariants.{Byte}
use Rattle.rept_facts.specs.State.{AnalysisState, Whole, state_of}
use Rattle.rept_facts.specs.Inferring.{Knows, HasInferred, Grows}
use Rattle.rept_propagate.proofs.propagation.Propagation.learn_byte.Goals as goal

pub returns-clause-grows : goal.returns-clause-grows
returns-clause-grows g c = subst (λ (x : Whole g.row.B.Denot g.row.W.Denot g.row.R.Denot). Grows (state_of g.W.Partial.sets g.W.Transfer.moves g.R.RowRules.rules g.B.ByteFacts.store c.args.self.now.facts) (state_of g.W.Partial.sets g.W.Transfer.moves g.R.RowRules.rules g.B.ByteFacts.store x)) (sym c.note_byte.ensures) c.in_ok-new.ensures.grows

pub returns-clause-inferred : goal.returns-clause-inferred
returns-clause-inferred g c =
    let P : AnalysisState g.row.W.Denot → Type 0 = Knows c.args.point (Byte c.args.a) c.args.value in
    subst (λ (x : Whole g.row.B.Denot g.row.W.Denot g.row.R.Denot). HasInferred (state_of g.W.Partial.sets g.W.Transfer.moves g.R.RowRules.rules g.B.ByteFacts.store c.args.self.now.facts) (state_of g.W.Partial.sets g.W.Transfer.moves g.R.RowRules.rules g.B.ByteFacts.store x) true P) (sym c.note_byte.ensures) (rw c.if-not-new.false at c.in_ok-new.ensures.inferred)

pub returns-clause-known : goal.returns-clause-known
returns-clause-known g c = subst (λ (x : Whole g.row.B.Denot g.row.W.Denot g.row.R.Denot). Knows c.args.point (Byte c.args.a) c.args.value (state_of g.W.Partial.sets g.W.Transfer.moves g.R.RowRules.rules g.B.ByteFacts.store x)) (sym c.note_byte.ensures) c.in_ok-new.ensures.known

pub returns-clause-still : goal.returns-clause-still
returns-clause-still g c = ap (λ (x : Whole g.row.B.Denot g.row.W.Denot g.row.R.Denot). x.work) c.note_byte.ensures ∙ c.in_ok-new.ensures.still

pub returns-then-not-new-clause-grows : goal.returns-then-not-new-clause-grows
returns-then-not-new-clause-grows g c = c.in_ok-new.ensures.grows

pub returns-then-not-new-clause-inferred : goal.returns-then-not-new-clause-inferred
returns-then-not-new-clause-inferred g c = rw c.if-not-new.true at c.in_ok-new.ensures.inferred

pub returns-then-not-new-clause-known : goal.returns-then-not-new-clause-known
returns-then-not-new-clause-known g c = c.in_ok-new.ensures.known

pub returns-then-not-new-clause-still : goal.returns-then-not-new-clause-still
returns-then-not-new-clause-still g c = c.in_ok-new.ensures.still
