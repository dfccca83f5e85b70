use Rattle.rept_timeline.specs.Paths.{timeline, lawful}
use Rattle.std.proofs.Common.{◌∙◌, sym, arith}
use Rattle.std.proofs.lemmas.Bool.{false≢true}
use Rattle.std.proofs.lemmas.Option.{slice_get_within}
use Rattle.rept_facts.specs.State.{state_of}
use Rattle.rept_facts.proofs.Along.{there_inside}
use Rattle.rept_facts.proofs.Listing.{no_blocker, blocker_meeting, none_may_act_more}
use Rattle.rept_propagate.proofs.propagation.Propagation.blocker.Goals as goal

pub returns-in_default : goal.returns-in_default
returns-in_default g c = no_blocker (state_of g.W.Partial.sets g.W.Transfer.moves g.R.RowRules.rules g.B.ByteFacts.store c.args.self.now.facts) c.requires.writings c.args.a (omega arith) c.args.m c.args.w c.loop-hit.k c.next_meeting.result c.in_default.not-Some c.requires.next c.next_meeting.ensures.next c.loop-hit.invariant.below

pub returns-then-may_act : goal.returns-then-may_act
returns-then-may_act g c = blocker_meeting (state_of g.W.Partial.sets g.W.Transfer.moves g.R.RowRules.rules g.B.ByteFacts.store c.args.self.now.facts) c.requires.writings c.args.a (omega arith) c.args.m c.args.w c.in-Some.hit c.entry-row.result (rw c.in-Some.is at c.next_meeting.ensures.next).1 c.entry-row.ensures.found (sym c.may_act.ensures ∙ c.if-may_act.true)

pub loop-hit-preserved : goal.loop-hit-preserved
loop-hit-preserved g c = record {
  below = none_may_act_more (state_of g.W.Partial.sets g.W.Transfer.moves g.R.RowRules.rules g.B.ByteFacts.store c.args.self.now.facts) c.requires.writings c.args.a (omega arith) c.args.m c.args.w c.loop-hit.k c.in-Some.hit c.entry-row.result c.requires.next (rw c.in-Some.is at c.next_meeting.ensures.next) c.entry-row.ensures.found (sym c.may_act.ensures ∙ c.if-may_act.false) c.loop-hit.invariant.below;
}

pub returns-then-is_unwritten : goal.returns-then-is_unwritten
returns-then-is_unwritten g c = λ k x.
    let t = timeline c.args.self.now.facts.paths in
    let there = (c.requires.writings.barriers.each k x.writing x.found).there in
    false≢true (sym (c.is_unwritten.ensures c.if-is_unwritten.true x.writing.row (there_inside t (lawful c.args.self.now.facts.paths).legs x.writing.row there)) ∙ x.may_act)

pub loop-hit-init : goal.loop-hit-init
loop-hit-init g c = record { below = λ j x lt found hits. absurd (omega (arith, lt)) }

pub entry-row-requires-clause-within : goal.entry-row-requires-clause-within
entry-row-requires-clause-within g c =
    let meeting = (rw c.in-Some.is at c.next_meeting.ensures.next).1 in
    slice_get_within c.args.self.now.facts.work.writing c.in-Some.hit meeting.writing meeting.stands

pub entry-row-requires-clause-writings : goal.entry-row-requires-clause-writings
entry-row-requires-clause-writings g c = c.requires.writings

pub may_act-requires-clause-there : goal.may_act-requires-clause-there
may_act-requires-clause-there g c = c.entry-row.ensures.there

pub may_act-requires-clause-next : goal.may_act-requires-clause-next
may_act-requires-clause-next g c = c.requires.next

pub overflow_add-k : goal.overflow_add-k
overflow_add-k g c =
    let meeting = (rw c.in-Some.is at c.next_meeting.ensures.next).1 in
    let within = slice_get_within c.args.self.now.facts.work.writing c.in-Some.hit meeting.writing meeting.stands in
    let few = c.next_meeting.ensures.few in
    omega (arith, within, few)

pub loop-hit-smaller : goal.loop-hit-smaller
loop-hit-smaller g c =
    let next = rw c.in-Some.is at c.next_meeting.ensures.next in
    let low = next.0 in
    let meeting = next.1 in
    let within = slice_get_within c.args.self.now.facts.work.writing c.in-Some.hit meeting.writing meeting.stands in
    omega (arith, low, within)
