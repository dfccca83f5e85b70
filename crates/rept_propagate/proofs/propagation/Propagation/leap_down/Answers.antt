use Rattle.rept_facts.specs.State.{AnalysisState, state_of}
use Rattle.rept_facts.proofs.Conclusion.{HasInferred_same, Grows_itself}
use Rattle.std.proofs.Common.{arith}
use Rattle.rept_propagate.proofs.propagation.Propagation.leap_down.Goals as goal

pub returns-in_default-clause-grows : goal.returns-in_default-clause-grows
returns-in_default-clause-grows g c = Grows_itself (state_of g.W.Partial.sets g.W.Transfer.moves g.R.RowRules.rules g.B.ByteFacts.store c.args.self.now.facts)

pub returns-in_default-clause-inferred : goal.returns-in_default-clause-inferred
returns-in_default-clause-inferred g c = HasInferred_same (state_of g.W.Partial.sets g.W.Transfer.moves g.R.RowRules.rules g.B.ByteFacts.store c.args.self.now.facts) (λ (x : AnalysisState g.row.W.Denot). Unit {0}) tt

pub returns-then-stretch-number-clause-grows : goal.returns-then-stretch-number-clause-grows
returns-then-stretch-number-clause-grows g c = Grows_itself (state_of g.W.Partial.sets g.W.Transfer.moves g.R.RowRules.rules g.B.ByteFacts.store c.args.self.now.facts)

pub returns-then-stretch-number-clause-inferred : goal.returns-then-stretch-number-clause-inferred
returns-then-stretch-number-clause-inferred g c = HasInferred_same (state_of g.W.Partial.sets g.W.Transfer.moves g.R.RowRules.rules g.B.ByteFacts.store c.args.self.now.facts) (λ (x : AnalysisState g.row.W.Denot). Unit {0}) tt

pub returns-then-to-stretch-clause-grows : goal.returns-then-to-stretch-clause-grows
returns-then-to-stretch-clause-grows g c = Grows_itself (state_of g.W.Partial.sets g.W.Transfer.moves g.R.RowRules.rules g.B.ByteFacts.store c.args.self.now.facts)

pub returns-then-to-stretch-clause-inferred : goal.returns-then-to-stretch-clause-inferred
returns-then-to-stretch-clause-inferred g c = HasInferred_same (state_of g.W.Partial.sets g.W.Transfer.moves g.R.RowRules.rules g.B.ByteFacts.store c.args.self.now.facts) (λ (x : AnalysisState g.row.W.Denot). Unit {0}) tt

pub reach_down-to-requires-clause-order : goal.reach_down-to-requires-clause-order
reach_down-to-requires-clause-order g c =
    let next = rw c.in-Some.is at c.stretch.ensures in
    let ordered = next.run.ordered in
    let low = c.if-stretch-number.false in
    let inside = c.requires.inside in
    let end = c.end.ensures.value in
    let last = c.min-last.ensures in
    omega (arith, ordered, low, inside, end, last)

pub spread_down-requires-clause-order : goal.spread_down-requires-clause-order
spread_down-requires-clause-order g c =
    let next = rw c.in-Some.is at c.stretch.ensures in
    let ordered = next.run.ordered in
    let low = c.if-stretch-number.false in
    let inside = c.requires.inside in
    let end = c.end.ensures.value in
    let last = c.min-last.ensures in
    omega (arith, ordered, low, inside, end, last)

pub reach_down-to-requires-clause-inside : goal.reach_down-to-requires-clause-inside
reach_down-to-requires-clause-inside g c =
    let end = c.end.ensures.value in
    let last = c.min-last.ensures in
    omega (arith, end, last)

pub spread_down-requires-clause-inside : goal.spread_down-requires-clause-inside
spread_down-requires-clause-inside g c =
    let end = c.end.ensures.value in
    let last = c.min-last.ensures in
    omega (arith, end, last)

pub spread_down-requires-clause-led : goal.spread_down-requires-clause-led
spread_down-requires-clause-led g c = c.reach_down-to.ensures

pub spread_down-requires-clause-known : goal.spread_down-requires-clause-known
spread_down-requires-clause-known g c =
    let next = rw c.in-Some.is at c.stretch.ensures in
    let last = c.min-last.ensures in
    λ q low high. next.run.value q low (omega (arith, high, last))

pub returns-clause-down : goal.returns-clause-down
returns-clause-down g c =
    let from = c.reach_down-to.ensures.from in
    let low = c.if-stretch-number.false in
    omega (arith, from, low)
