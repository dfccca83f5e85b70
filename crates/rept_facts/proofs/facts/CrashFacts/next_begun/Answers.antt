use Rattle.std.proofs.Common.{arith, sym, ◌∙◌}
use Rattle.rept_report.specs.Spots.{spot}
use Rattle.rept_facts.specs.State.{state_of}
use Rattle.rept_facts.proofs.Newest.{none_yet, none_past, none_listed, none_before, none_at, entry_at}
use Rattle.rept_facts.proofs.facts.CrashFacts.next_begun.Goals as goal

pub loop-from-init : goal.loop-from-init
loop-from-init g c = record { low = omega arith; none = none_yet (spot c.args.moment c.args.a) (state_of g.W.Partial.sets g.W.Transfer.moves g.R.RowRules.rules g.B.ByteFacts.store c.args.self.now) c.args.k }

pub returns-in_default-clause-next : goal.returns-in_default-clause-next
returns-in_default-clause-next g c = none_listed (spot c.args.moment c.args.a) (state_of g.W.Partial.sets g.W.Transfer.moves g.R.RowRules.rules g.B.ByteFacts.store c.args.self.now) c.args.k c.loop-from.from c.writing_count-end.result c.next_hit.result c.loop-from.invariant.none c.writing_count-end.ensures c.in_default.not-Some c.next_hit.ensures.next

pub returns-then-not-is_ahead-clause-next : goal.returns-then-not-is_ahead-clause-next
returns-then-not-is_ahead-clause-next g c =
    let its = rw c.in-Some.is at c.next_hit.ensures.next in
    let low = c.loop-from.invariant.low in
    let from = its.1.from in
    (entry_at (spot c.args.moment c.args.a) (state_of g.W.Partial.sets g.W.Transfer.moves g.R.RowRules.rules g.B.ByteFacts.store c.args.self.now) c.loop-from.from c.writing_count-end.result c.in-Some.hit c.entry-row.result its c.entry-row.ensures.found (sym c.is_ahead.ensures ∙ c.if-not-is_ahead.true), omega (arith, low, from), none_before (spot c.args.moment c.args.a) (state_of g.W.Partial.sets g.W.Transfer.moves g.R.RowRules.rules g.B.ByteFacts.store c.args.self.now) c.args.k c.loop-from.from c.writing_count-end.result c.in-Some.hit c.loop-from.invariant.none its)

pub returns-then-not-is_ahead-clause-inside : goal.returns-then-not-is_ahead-clause-inside
returns-then-not-is_ahead-clause-inside g c = (rw c.in-Some.is at c.next_hit.ensures.next).1.inside

pub returns-then-not-is_ahead-clause-few : goal.returns-then-not-is_ahead-clause-few
returns-then-not-is_ahead-clause-few g c =
    let inside = (rw c.in-Some.is at c.next_hit.ensures.next).1.inside in
    let few = c.next_hit.ensures.few in
    omega (arith, inside, few)

pub returns-clause-next : goal.returns-clause-next
returns-clause-next g c =
    let far = c.loop-from-test.false in
    let all = c.writing_count-end.ensures in
    none_past (spot c.args.moment c.args.a) (state_of g.W.Partial.sets g.W.Transfer.moves g.R.RowRules.rules g.B.ByteFacts.store c.args.self.now) c.args.k c.loop-from.from c.loop-from.invariant.none (omega (arith, far, all))

pub loop-from-preserved : goal.loop-from-preserved
loop-from-preserved g c =
    let its = rw c.in-Some.is at c.next_hit.ensures.next in
    let low = c.loop-from.invariant.low in
    let from = its.1.from in
    record {
      low = omega (arith, low, from);
      none = none_at (spot c.args.moment c.args.a) (state_of g.W.Partial.sets g.W.Transfer.moves g.R.RowRules.rules g.B.ByteFacts.store c.args.self.now) c.args.k c.in-Some.hit c.entry-row.result (none_before (spot c.args.moment c.args.a) (state_of g.W.Partial.sets g.W.Transfer.moves g.R.RowRules.rules g.B.ByteFacts.store c.args.self.now) c.args.k c.loop-from.from c.writing_count-end.result c.in-Some.hit c.loop-from.invariant.none its) c.entry-row.ensures.found (sym c.is_ahead.ensures ∙ c.if-not-is_ahead.false);
    }

pub entry-row-requires-clause-within : goal.entry-row-requires-clause-within
entry-row-requires-clause-within g c = (rw c.in-Some.is at c.next_hit.ensures.next).1.inside

pub overflow_add-from : goal.overflow_add-from
overflow_add-from g c =
    let inside = (rw c.in-Some.is at c.next_hit.ensures.next).1.inside in
    let few = c.next_hit.ensures.few in
    omega (arith, inside, few)

pub loop-from-smaller : goal.loop-from-smaller
loop-from-smaller g c =
    let its = rw c.in-Some.is at c.next_hit.ensures.next in
    let below = its.0 in
    let from = its.1.from in
    omega (arith, below, from)
