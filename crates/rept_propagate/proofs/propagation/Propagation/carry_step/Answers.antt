use Rattle.rept_timeline.specs.Paths.{timeline, lawful}
use Rattle.std.proofs.Common.{◌≡◌, ◌+◌, ◌≤◌, false, IfOk, refl, sym, subst, arith}
use Rattle.rept_report.specs.Spots.{passage}
use Rattle.rept_facts.specs.State.{Whole, state_of}
use Rattle.rept_facts.specs.Inferring.{IsCarriedFrom, IsCarriedIf, IsSparedBetween, Grows, HasInferred}
use Rattle.rept_facts.proofs.Conclusion.{HasInferred_if, HasInferred_same, Grows_same}
use Rattle.rept_propagate.proofs.Going.{blocked_if, step_if, spared_one}
use Rattle.rept_propagate.proofs.propagation.Propagation.carry_step.Goals as goal

pub returns-then-m-end-clause-inferred : goal.returns-then-m-end-clause-inferred
returns-then-m-end-clause-inferred g c =
    let most = ((lawful c.args.self.now.facts.paths).moments.inside c.args.m (c.args.m + 1) c.requires.next).1 in
    let end = c.end-end.ensures.value in
    let past = c.if-m-end.true in
    absurd (omega (arith, most, end, past))

pub returns-then-is_stopped-clause-inferred : goal.returns-then-is_stopped-clause-inferred
returns-then-is_stopped-clause-inferred g c = HasInferred_same (state_of g.W.Partial.sets g.W.Transfer.moves g.R.RowRules.rules g.B.ByteFacts.store c.args.self.now.facts) (IsCarriedIf (passage c.args.a c.args.m (c.args.m + 1))) (blocked_if (state_of g.W.Partial.sets g.W.Transfer.moves g.R.RowRules.rules g.B.ByteFacts.store c.args.self.now.facts) (passage c.args.a c.args.m (c.args.m + 1)) (c.is_stopped.ensures c.if-is_stopped.true))

pub returns-then-not-is_carried_on-clause-grows : goal.returns-then-not-is_carried_on-clause-grows
returns-then-not-is_carried_on-clause-grows g c =
    let st = state_of g.W.Partial.sets g.W.Transfer.moves g.R.RowRules.rules g.B.ByteFacts.store in
    subst (λ (x : Whole g.row.B.Denot g.row.W.Denot g.row.R.Denot). Grows (st c.args.self.now.facts) (st x)) (sym c.is_carried_on.ensures.same) (Grows_same (st c.args.self.now.facts) (st c.args.self.now.facts) refl)

pub returns-then-not-is_carried_on-clause-inferred : goal.returns-then-not-is_carried_on-clause-inferred
returns-then-not-is_carried_on-clause-inferred g c =
    let st = state_of g.W.Partial.sets g.W.Transfer.moves g.R.RowRules.rules g.B.ByteFacts.store in
    subst (λ (x : Whole g.row.B.Denot g.row.W.Denot g.row.R.Denot). HasInferred (st c.args.self.now.facts) (st x) false (IsCarriedIf (passage c.args.a c.args.m (c.args.m + 1)))) (sym c.is_carried_on.ensures.same) (HasInferred_same (st c.args.self.now.facts) (IsCarriedIf (passage c.args.a c.args.m (c.args.m + 1))) (blocked_if (st c.args.self.now.facts) (passage c.args.a c.args.m (c.args.m + 1)) (c.is_carried_on.ensures.no c.if-not-is_carried_on.true)))

pub carry_segment-requires-clause-to : goal.carry_segment-requires-clause-to
carry_segment-requires-clause-to g c =
    let most = ((lawful c.args.self.now.facts.paths).moments.inside c.args.m (c.args.m + 1) c.requires.next).1 in
    subst (λ (x : Whole g.row.B.Denot g.row.W.Denot g.row.R.Denot). c.args.m + 1 ≤ (timeline x.paths).moments.end) (sym c.is_carried_on.ensures.same) most

pub carry_segment-requires-clause-spared : goal.carry_segment-requires-clause-spared
carry_segment-requires-clause-spared g c =
    let st = state_of g.W.Partial.sets g.W.Transfer.moves g.R.RowRules.rules g.B.ByteFacts.store in
    subst (λ (x : Whole g.row.B.Denot g.row.W.Denot g.row.R.Denot). IsSparedBetween c.args.m (c.args.m + 1) c.args.a (st x)) (sym c.is_carried_on.ensures.same) (spared_one (st c.args.self.now.facts) c.args.a c.args.m (c.is_carried_on.ensures.yes c.if-not-is_carried_on.false))

pub carry_segment-requires-clause-open : goal.carry_segment-requires-clause-open
carry_segment-requires-clause-open g c = subst (λ (x : Whole g.row.B.Denot g.row.W.Denot g.row.R.Denot). x.complete ≡ false) (sym c.is_carried_on.ensures.same) c.requires.open

pub returns-clause-grows : goal.returns-clause-grows
returns-clause-grows g c =
    let st = state_of g.W.Partial.sets g.W.Transfer.moves g.R.RowRules.rules g.B.ByteFacts.store in
    subst (λ (x : Whole g.row.B.Denot g.row.W.Denot g.row.R.Denot). Grows (st x) (st c.carry_segment.new.self.facts)) c.is_carried_on.ensures.same c.carry_segment.ensures.grows

pub returns-clause-inferred : goal.returns-clause-inferred
returns-clause-inferred g c =
    let st = state_of g.W.Partial.sets g.W.Transfer.moves g.R.RowRules.rules g.B.ByteFacts.store in
    let s = st c.args.self.now.facts in
    HasInferred_if s (st c.carry_segment.new.self.facts) c.carry_segment.result (IsCarriedFrom c.args.a c.args.m (c.args.m + 1)) (IsCarriedIf (passage c.args.a c.args.m (c.args.m + 1))) (subst (λ (x : Whole g.row.B.Denot g.row.W.Denot g.row.R.Denot). IfOk c.carry_segment.result (λ learnt. HasInferred (st x) (st c.carry_segment.new.self.facts) learnt (IsCarriedFrom c.args.a c.args.m (c.args.m + 1)))) c.is_carried_on.ensures.same c.carry_segment.ensures.inferred) (λ h. step_if s c.args.a c.args.m h)
