use Rattle.std.proofs.Common.{◌∙◌, false, sym, subst, arith}
use Rattle.rept_report.specs.Spots.{passage}
use Rattle.rept_facts.specs.State.{Whole, state_of}
use Rattle.rept_facts.specs.Inferring.{Grows, HasInferred, IsCarriedIf}
use Rattle.rept_facts.proofs.Conclusion.{HasInferred_same, Grows_itself}
use Rattle.rept_propagate.proofs.Going.{blocked_if}
use Rattle.rept_facts.proofs.Listing.{blocked_untraced, blocked_some, bridged_not_some}
use Rattle.rept_propagate.proofs.propagation.Propagation.carry_link.Goals as goal

pub returns-then-is_untraced_between-clause-inferred : goal.returns-then-is_untraced_between-clause-inferred
returns-then-is_untraced_between-clause-inferred g c =
    let s = (state_of g.W.Partial.sets g.W.Transfer.moves g.R.RowRules.rules g.B.ByteFacts.store c.args.self.now.facts) in
    let x = passage c.args.a c.args.m c.args.w in
    rw c.unchanged.ensures.news (HasInferred_same s (IsCarriedIf x) (blocked_if s x (blocked_untraced s x (sym c.is_untraced_between.ensures ∙ c.if-is_untraced_between.true))))

pub returns-then-is_some-clause-grows : goal.returns-then-is_some-clause-grows
returns-then-is_some-clause-grows g c =
    subst (λ (y : Whole g.row.B.Denot g.row.W.Denot g.row.R.Denot). Grows (state_of g.W.Partial.sets g.W.Transfer.moves g.R.RowRules.rules g.B.ByteFacts.store c.args.self.now.facts) (state_of g.W.Partial.sets g.W.Transfer.moves g.R.RowRules.rules g.B.ByteFacts.store y)) (sym c.note_stop.ensures) (Grows_itself (state_of g.W.Partial.sets g.W.Transfer.moves g.R.RowRules.rules g.B.ByteFacts.store c.args.self.now.facts))

pub returns-then-is_some-clause-inferred : goal.returns-then-is_some-clause-inferred
returns-then-is_some-clause-inferred g c =
    let s = (state_of g.W.Partial.sets g.W.Transfer.moves g.R.RowRules.rules g.B.ByteFacts.store c.args.self.now.facts) in
    let x = passage c.args.a c.args.m c.args.w in
    rw c.unchanged-then-is_some.ensures.news (subst (λ (y : Whole g.row.B.Denot g.row.W.Denot g.row.R.Denot). HasInferred s (state_of g.W.Partial.sets g.W.Transfer.moves g.R.RowRules.rules g.B.ByteFacts.store y) false (IsCarriedIf x)) (sym c.note_stop.ensures)
    (HasInferred_same s (IsCarriedIf x) (blocked_if s x (blocked_some s c.requires.writings c.args.a (omega arith) c.args.m c.args.w c.blocker-found.result (sym c.is_some.ensures ∙ c.if-is_some.true) c.blocker-found.ensures))))

pub cross-requires-clause-bridged : goal.cross-requires-clause-bridged
cross-requires-clause-bridged g c = bridged_not_some (state_of g.W.Partial.sets g.W.Transfer.moves g.R.RowRules.rules g.B.ByteFacts.store c.args.self.now.facts) c.requires.writings c.args.a (omega arith) c.args.m c.args.w c.blocker-found.result c.requires.next (sym c.is_untraced_between.ensures ∙ c.if-is_untraced_between.false) (sym c.is_some.ensures ∙ c.if-is_some.false) c.blocker-found.ensures
