use Rattle.std.proofs.Common.{◌-◌, arith, ◌∙◌}
use Rattle.rept_facts.specs.State.{AnalysisState, state_of}
use Rattle.rept_facts.proofs.Conclusion.{HasInferred_further, Grows_trans, HasInferred_same, Grows_itself}
use Rattle.rept_propagate.proofs.Going.{strip_at, strip_after}
use Rattle.rept_propagate.proofs.propagation.Propagation.carry_former.Goals as goal

pub carry_under-requires-clause-strip : goal.carry_under-requires-clause-strip
carry_under-requires-clause-strip g c =
    let s = (state_of g.W.Partial.sets g.W.Transfer.moves g.R.RowRules.rules g.B.ByteFacts.store c.args.self.now.facts) in
    let t = (state_of g.W.Partial.sets g.W.Transfer.moves g.R.RowRules.rules g.B.ByteFacts.store c.carry_over.new.self.facts) in
    let former = c.strip-former.result in
    let its = c.strip-former.ensures in
    let low = its.from in
    let high = its.to in
    strip_after s t c.in_ok-new.ensures.grows former.first former (strip_at _ (c.args.first - 1) former.first former its (omega arith) (omega (arith, low, high)))

pub returns-in_err-under-clause-grows : goal.returns-in_err-under-clause-grows
returns-in_err-under-clause-grows g c = Grows_trans _ _ _ c.in_ok-new.ensures.grows c.carry_under.ensures.grows

pub returns-clause-grows : goal.returns-clause-grows
returns-clause-grows g c = Grows_trans _ _ _ c.in_ok-new.ensures.grows c.in_ok-under.ensures.grows

pub returns-clause-inferred : goal.returns-clause-inferred
returns-clause-inferred g c =
    let s = (state_of g.W.Partial.sets g.W.Transfer.moves g.R.RowRules.rules g.B.ByteFacts.store c.args.self.now.facts) in
    let t = (state_of g.W.Partial.sets g.W.Transfer.moves g.R.RowRules.rules g.B.ByteFacts.store c.carry_over.new.self.facts) in
    let u = (state_of g.W.Partial.sets g.W.Transfer.moves g.R.RowRules.rules g.B.ByteFacts.store c.carry_under.new.self.facts) in
    HasInferred_further s t u c.in_ok-new.new c.in_ok-under.under.0 (λ (x : AnalysisState g.row.W.Denot). Unit {0}) (λ (x : AnalysisState g.row.W.Denot). Unit {0}) (λ (x : AnalysisState g.row.W.Denot). Unit {0}) c.in_ok-under.ensures.grows c.if-not-new.false c.in_ok-new.ensures.inferred c.in_ok-under.ensures.inferred

pub returns-then-not-is_untraced_past-clause-grows : goal.returns-then-not-is_untraced_past-clause-grows
returns-then-not-is_untraced_past-clause-grows g c = Grows_itself (state_of g.W.Partial.sets g.W.Transfer.moves g.R.RowRules.rules g.B.ByteFacts.store c.args.self.now.facts)

pub returns-then-not-is_untraced_past-clause-inferred : goal.returns-then-not-is_untraced_past-clause-inferred
returns-then-not-is_untraced_past-clause-inferred g c = HasInferred_same (state_of g.W.Partial.sets g.W.Transfer.moves g.R.RowRules.rules g.B.ByteFacts.store c.args.self.now.facts) (λ (x : AnalysisState g.row.W.Denot). Unit {0}) tt

pub returns-then-is_some-clause-grows : goal.returns-then-is_some-clause-grows
returns-then-is_some-clause-grows g c = Grows_itself (state_of g.W.Partial.sets g.W.Transfer.moves g.R.RowRules.rules g.B.ByteFacts.store c.args.self.now.facts)

pub returns-then-is_some-clause-inferred : goal.returns-then-is_some-clause-inferred
returns-then-is_some-clause-inferred g c = HasInferred_same (state_of g.W.Partial.sets g.W.Transfer.moves g.R.RowRules.rules g.B.ByteFacts.store c.args.self.now.facts) (λ (x : AnalysisState g.row.W.Denot). Unit {0}) tt

pub returns-then-not-new-clause-grows : goal.returns-then-not-new-clause-grows
returns-then-not-new-clause-grows g c = c.in_ok-new.ensures.grows

pub returns-then-not-new-clause-inferred : goal.returns-then-not-new-clause-inferred
returns-then-not-new-clause-inferred g c = rw c.if-not-new.true at c.in_ok-new.ensures.inferred

pub carry_under-requires-clause-open : goal.carry_under-requires-clause-open
carry_under-requires-clause-open g c = c.in_ok-new.ensures.grows.complete ∙ c.requires.open

pub carry_under-requires-clause-writings : goal.carry_under-requires-clause-writings
carry_under-requires-clause-writings g c = c.in_ok-new.ensures.grows.writing c.requires.writings

pub carry_over-requires-clause-inside : goal.carry_over-requires-clause-inside
carry_over-requires-clause-inside g c = c.strip-former.ensures.inside

pub strip-former-requires : goal.strip-former-requires
strip-former-requires g c =
    let inside = c.requires.inside in
    omega (arith, inside)

pub returns-then-is_some-clause-down : goal.returns-then-is_some-clause-down
returns-then-is_some-clause-down g c =
    let some = c.requires.some in
    let from = c.strip-former.ensures.from in
    omega (arith, some, from)

pub returns-then-not-new-clause-down : goal.returns-then-not-new-clause-down
returns-then-not-new-clause-down g c =
    let some = c.requires.some in
    let from = c.strip-former.ensures.from in
    omega (arith, some, from)

pub returns-clause-down : goal.returns-clause-down
returns-clause-down g c =
    let some = c.requires.some in
    let from = c.strip-former.ensures.from in
    let down = c.in_ok-under.ensures.down in
    omega (arith, some, from, down)
