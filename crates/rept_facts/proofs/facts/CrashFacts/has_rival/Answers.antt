use Rattle.std.proofs.Common.{arith}
use Rattle.rept_report.specs.Spots.{spot}
use Rattle.rept_facts.specs.State.{state_of}
use Rattle.rept_facts.specs.Latest.{IsBegunEntry}
use Rattle.rept_facts.proofs.Newest.{none_least, before_none, before_more, before_all, not_last}
use Rattle.rept_facts.proofs.facts.CrashFacts.has_rival.Goals as goal

pub loop-k-init : goal.loop-k-init
loop-k-init g c = record { before = before_none (state_of g.W.Partial.sets g.W.Transfer.moves g.R.RowRules.rules g.B.ByteFacts.store c.args.self.now) c.requires.settled c.args.moment c.args.a (omega arith) c.args.best }

pub returns-in_default-clause-none : goal.returns-in_default-clause-none
returns-in_default-clause-none g c = λ out. before_all (state_of g.W.Partial.sets g.W.Transfer.moves g.R.RowRules.rules g.B.ByteFacts.store c.args.self.now) c.requires.settled c.args.moment c.args.a (omega arith) c.loop-k.from c.args.best c.requires.best (none_least (IsBegunEntry (spot c.args.moment c.args.a) (state_of g.W.Partial.sets g.W.Transfer.moves g.R.RowRules.rules g.B.ByteFacts.store c.args.self.now)) c.loop-k.from c.next_begun.result c.in_default.not-Some c.next_begun.ensures.next) c.loop-k.invariant.before

pub returns-then-is_rival-clause-some : goal.returns-then-is_rival-clause-some
returns-then-is_rival-clause-some g c =
    let its = rw c.in-Some.is at c.next_begun.ensures.next in
    let rival = c.is_rival.ensures.yes c.if-is_rival.true in
    λ out last. not_last (state_of g.W.Partial.sets g.W.Transfer.moves g.R.RowRules.rules g.B.ByteFacts.store c.args.self.now) c.requires.settled c.args.moment c.args.a (omega arith) c.in-Some.k c.args.best c.entry-row.result its.0 c.entry-row.ensures.found rival.0 rival.1 last

pub loop-k-preserved : goal.loop-k-preserved
loop-k-preserved g c =
    let its = rw c.in-Some.is at c.next_begun.ensures.next in
    record {
      before = before_more (state_of g.W.Partial.sets g.W.Transfer.moves g.R.RowRules.rules g.B.ByteFacts.store c.args.self.now) c.requires.settled c.args.moment c.args.a (omega arith) c.loop-k.from c.in-Some.k c.args.best c.entry-row.result its.2 c.entry-row.ensures.found (c.is_rival.ensures.no c.if-is_rival.false) c.loop-k.invariant.before;
    }

pub entry-row-requires-clause-within : goal.entry-row-requires-clause-within
entry-row-requires-clause-within g c = rw c.in-Some.is at c.next_begun.ensures.inside

pub loop-k-smaller : goal.loop-k-smaller
loop-k-smaller g c =
    let from = (rw c.in-Some.is at c.next_begun.ensures.next).1 in
    let inside = rw c.in-Some.is at c.next_begun.ensures.inside in
    omega (arith, from, inside)

pub overflow_add-from : goal.overflow_add-from
overflow_add-from g c =
    let few = rw c.in-Some.is at c.next_begun.ensures.few in
    omega (arith, few)
