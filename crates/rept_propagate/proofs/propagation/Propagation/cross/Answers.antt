use Rattle.rept_timeline.specs.Paths.{lawful}
use Rattle.std.proofs.Common.{◌≡◌, ◌+◌, ℕ, true, sym, subst, arith}
use Rattle.rept_report.specs.Spots.{passage}
use Rattle.rept_facts.specs.State.{state_of}
use Rattle.rept_facts.specs.Inferring.{IsBridged, IsCarriedFrom, IsCarriedIf}
use Rattle.rept_facts.proofs.Conclusion.{HasInferred_if}
use Rattle.rept_propagate.proofs.Going.{step_if, spared_one}
use Rattle.rept_propagate.proofs.propagation.Propagation.cross.Goals as goal

pub overflow_add-m : goal.overflow_add-m
overflow_add-m g c = let next = c.is_after.ensures.yes c.if-is_after.true in omega (arith, next)

pub carry_segment-requires-clause-to : goal.carry_segment-requires-clause-to
carry_segment-requires-clause-to g c =
    let most = ((lawful c.args.self.now.facts.paths).moments.inside c.args.m c.args.w c.requires.bridged.next).1 in
    let next = c.is_after.ensures.yes c.if-is_after.true in
    omega (arith, most, next)

pub carry_segment-requires-clause-spared : goal.carry_segment-requires-clause-spared
carry_segment-requires-clause-spared g c =
    let s = (state_of g.W.Partial.sets g.W.Transfer.moves g.R.RowRules.rules g.B.ByteFacts.store c.args.self.now.facts) in
    spared_one s c.args.a c.args.m (subst (λ (n : ℕ). IsBridged (passage c.args.a c.args.m n) s) (c.is_after.ensures.yes c.if-is_after.true) c.requires.bridged)

pub returns-then-is_after-clause-inferred : goal.returns-then-is_after-clause-inferred
returns-then-is_after-clause-inferred g c =
    let s = (state_of g.W.Partial.sets g.W.Transfer.moves g.R.RowRules.rules g.B.ByteFacts.store c.args.self.now.facts) in
    HasInferred_if s _ c.carry_segment.result (IsCarriedFrom c.args.a c.args.m (c.args.m + 1)) (IsCarriedIf (passage c.args.a c.args.m c.args.w)) c.carry_segment.ensures.inferred (λ h. subst (λ (n : ℕ). IsCarriedIf (passage c.args.a c.args.m n) s) (sym (c.is_after.ensures.yes c.if-is_after.true)) (step_if s c.args.a c.args.m h))

pub tell_either-requires-clause-room : goal.tell_either-requires-clause-room
tell_either-requires-clause-room g c = λ lined. c.is_after.ensures.no c.if-is_after.false (lined c.args.m c.args.w c.requires.bridged.next)
