use Rattle.std.proofs.Common.{true, sym, subst}
use Rattle.rept_facts.specs.State.{AnalysisState, Whole, state_of}
use Rattle.rept_facts.specs.Inferring.{HasInferred, IsSpreadTo, Grows}
use Rattle.rept_facts.proofs.Conclusion.{Grows_same, HasInferred_new, HasInferred_none}
use Rattle.rept_propagate.proofs.propagation.Propagation.spread_led.Goals as goal

pub returns-in-Ok-More-clause-inferred : goal.returns-in-Ok-More-clause-inferred
returns-in-Ok-More-clause-inferred g c =
    let sent = rw c.in-Ok-More.field-0-is at c.in-Ok-More.ensures in
    let P : AnalysisState g.row.W.Denot → Type 0 = IsSpreadTo (record { address = c.args.a; from = c.args.from; to = c.args.to; value = c.args.value }) in
    subst (λ (x : Whole g.row.B.Denot g.row.W.Denot g.row.R.Denot). HasInferred (state_of g.W.Partial.sets g.W.Transfer.moves g.R.RowRules.rules g.B.ByteFacts.store c.args.self.now.facts) (state_of g.W.Partial.sets g.W.Transfer.moves g.R.RowRules.rules g.B.ByteFacts.store x) true P) (sym c.note_byte.ensures)
    (HasInferred_new (state_of g.W.Partial.sets g.W.Transfer.moves g.R.RowRules.rules g.B.ByteFacts.store c.args.self.now.facts) (state_of g.W.Partial.sets g.W.Transfer.moves g.R.RowRules.rules g.B.ByteFacts.store c.send.new.self) P sent.1 sent.2)

pub returns-in-Ok-Same-clause-grows : goal.returns-in-Ok-Same-clause-grows
returns-in-Ok-Same-clause-grows g c =
    let sent = rw c.in-Ok-Same.field-0-is at c.in-Ok-Same.ensures in
    Grows_same _ _ sent.0

pub returns-in-Ok-More-clause-grows : goal.returns-in-Ok-More-clause-grows
returns-in-Ok-More-clause-grows g c =
    let sent = rw c.in-Ok-More.field-0-is at c.in-Ok-More.ensures in
    subst (λ (x : Whole g.row.B.Denot g.row.W.Denot g.row.R.Denot). Grows (state_of g.W.Partial.sets g.W.Transfer.moves g.R.RowRules.rules g.B.ByteFacts.store c.args.self.now.facts) (state_of g.W.Partial.sets g.W.Transfer.moves g.R.RowRules.rules g.B.ByteFacts.store x)) (sym c.note_byte.ensures) sent.0

pub returns-in-Ok-Same-clause-inferred : goal.returns-in-Ok-Same-clause-inferred
returns-in-Ok-Same-clause-inferred g c =
    let sent = rw c.in-Ok-Same.field-0-is at c.in-Ok-Same.ensures in
    let P : AnalysisState g.row.W.Denot → Type 0 = IsSpreadTo (record { address = c.args.a; from = c.args.from; to = c.args.to; value = c.args.value }) in
    HasInferred_none (state_of g.W.Partial.sets g.W.Transfer.moves g.R.RowRules.rules g.B.ByteFacts.store c.args.self.now.facts) (state_of g.W.Partial.sets g.W.Transfer.moves g.R.RowRules.rules g.B.ByteFacts.store c.send.new.self) P sent.0 sent.1

pub returns-in-Ok-Stop-clause-grows : goal.returns-in-Ok-Stop-clause-grows
returns-in-Ok-Stop-clause-grows g c =
    let sent = rw c.in-Ok-Stop.field-0-is at c.in-Ok-Stop.ensures in
    sent.0

pub returns-in-Ok-Stop-clause-halt : goal.returns-in-Ok-Stop-clause-halt
returns-in-Ok-Stop-clause-halt g c =
    let sent = rw c.in-Ok-Stop.field-0-is at c.in-Ok-Stop.ensures in
    sent.1

pub returns-in-Err-clause-grows : goal.returns-in-Err-clause-grows
returns-in-Err-clause-grows g c = c.in-Err.ensures.0

pub returns-in-Err-clause-halt : goal.returns-in-Err-clause-halt
returns-in-Err-clause-halt g c = c.in-Err.ensures.1
