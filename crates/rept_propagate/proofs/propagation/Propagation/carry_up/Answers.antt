use Rattle.std.proofs.Common.{◌+◌, ◌-◌, arith, ◌∙◌}
use Rattle.rept_report.specs.Spots.{passage}
use Rattle.rept_facts.specs.State.{AnalysisState, state_of}
use Rattle.rept_facts.specs.Inferring.{IsCarriedIf}
use Rattle.rept_facts.proofs.Conclusion.{HasInferred_both, HasInferred_same, Grows_itself, Grows_trans}
use Rattle.rept_propagate.proofs.Going.{next_after}
use Rattle.rept_propagate.proofs.propagation.Propagation.carry_up.Goals as goal

pub loop-m-init : goal.loop-m-init
loop-m-init g c = record { grows = Grows_itself _; inferred = HasInferred_same _ (λ (x : AnalysisState g.row.W.Denot). Unit {0}) tt; least = let inside = c.requires.inside in omega (arith, inside) }

pub carry_step-requires-clause-next : goal.carry_step-requires-clause-next
carry_step-requires-clause-next g c =
    let more = c.loop-m-test.true in
    let least = c.loop-m.invariant.least in
    next_after (state_of g.W.Partial.sets g.W.Transfer.moves g.R.RowRules.rules g.B.ByteFacts.store c.args.self.now.facts) (state_of g.W.Partial.sets g.W.Transfer.moves g.R.RowRules.rules g.B.ByteFacts.store c.loop-m.self.facts) c.loop-m.invariant.grows c.loop-m.m (c.loop-m.m + 1) ((c.requires.strip.joined c.loop-m.m least more).next)

pub carry_step-requires-clause-writings : goal.carry_step-requires-clause-writings
carry_step-requires-clause-writings g c = c.loop-m.invariant.grows.writing c.requires.writings

pub returns-in_err-new-clause-grows : goal.returns-in_err-new-clause-grows
returns-in_err-new-clause-grows g c = Grows_trans _ _ _ c.loop-m.invariant.grows c.carry_step.ensures.grows

pub loop-m-preserved : goal.loop-m-preserved
loop-m-preserved g c =
    let more = c.loop-m-test.true in
    let least = c.loop-m.invariant.least in
    record {
      grows = Grows_trans (state_of g.W.Partial.sets g.W.Transfer.moves g.R.RowRules.rules g.B.ByteFacts.store c.args.self.now.facts) (state_of g.W.Partial.sets g.W.Transfer.moves g.R.RowRules.rules g.B.ByteFacts.store c.loop-m.self.facts) (state_of g.W.Partial.sets g.W.Transfer.moves g.R.RowRules.rules g.B.ByteFacts.store c.carry_step.new.self.facts) c.loop-m.invariant.grows c.in_ok-new.ensures.grows;
      inferred = HasInferred_both (state_of g.W.Partial.sets g.W.Transfer.moves g.R.RowRules.rules g.B.ByteFacts.store c.args.self.now.facts) (state_of g.W.Partial.sets g.W.Transfer.moves g.R.RowRules.rules g.B.ByteFacts.store c.loop-m.self.facts) (state_of g.W.Partial.sets g.W.Transfer.moves g.R.RowRules.rules g.B.ByteFacts.store c.carry_step.new.self.facts) c.loop-m.learnt c.in_ok-new.new (λ (x : AnalysisState g.row.W.Denot). Unit {0}) (IsCarriedIf (passage c.args.a c.loop-m.m (c.loop-m.m + 1))) (λ (x : AnalysisState g.row.W.Denot). Unit {0}) c.loop-m.invariant.grows c.in_ok-new.ensures.grows c.loop-m.invariant.inferred c.in_ok-new.ensures.inferred (λ p q. tt);
      least = omega (arith, least);
    }

pub returns-then-not-new-clause-inferred : goal.returns-then-not-new-clause-inferred
returns-then-not-new-clause-inferred g c = HasInferred_both (state_of g.W.Partial.sets g.W.Transfer.moves g.R.RowRules.rules g.B.ByteFacts.store c.args.self.now.facts) (state_of g.W.Partial.sets g.W.Transfer.moves g.R.RowRules.rules g.B.ByteFacts.store c.loop-m.self.facts) (state_of g.W.Partial.sets g.W.Transfer.moves g.R.RowRules.rules g.B.ByteFacts.store c.carry_step.new.self.facts) c.loop-m.learnt c.in_ok-new.new (λ (x : AnalysisState g.row.W.Denot). Unit {0}) (IsCarriedIf (passage c.args.a c.loop-m.m (c.loop-m.m + 1))) (λ (x : AnalysisState g.row.W.Denot). Unit {0}) c.loop-m.invariant.grows c.in_ok-new.ensures.grows c.loop-m.invariant.inferred c.in_ok-new.ensures.inferred (λ p q. tt)

pub carry_step-requires-clause-open : goal.carry_step-requires-clause-open
carry_step-requires-clause-open g c = c.loop-m.invariant.grows.complete ∙ c.requires.open

pub returns-clause-grows : goal.returns-clause-grows
returns-clause-grows g c = c.loop-m.invariant.grows

pub returns-clause-inferred : goal.returns-clause-inferred
returns-clause-inferred g c = c.loop-m.invariant.inferred

pub returns-then-not-new-clause-grows : goal.returns-then-not-new-clause-grows
returns-then-not-new-clause-grows g c = Grows_trans _ _ _ c.loop-m.invariant.grows c.in_ok-new.ensures.grows

pub loop-m-smaller : goal.loop-m-smaller
loop-m-smaller g c =
    let more = c.loop-m-test.true in
    omega (arith, more)

pub overflow_add-m : goal.overflow_add-m
overflow_add-m g c =
    let more = c.loop-m-test.true in
    omega (arith, more)
