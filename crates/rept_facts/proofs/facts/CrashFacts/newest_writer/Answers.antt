use Rattle.std.proofs.Common.{arith}
use Rattle.std.proofs.lemmas.Option.{slice_get_within}
use Rattle.rept_report.specs.Spots.{spot}
use Rattle.rept_facts.specs.State.{state_of}
use Rattle.rept_facts.specs.Latest.{IsBegunEntry}
use Rattle.rept_facts.proofs.Newest.{none_least, maybe_at, only_first, only_none, newer_one, newer_only}
use Rattle.rept_facts.proofs.facts.CrashFacts.newest_writer.Goals as goal

pub entry-best-requires-clause-within : goal.entry-best-requires-clause-within
entry-best-requires-clause-within g c =
    let e = c.requires.first.0 in
    slice_get_within c.args.self.now.work.writing c.args.first e.writing e.stands

pub loop-j-init : goal.loop-j-init
loop-j-init g c =
    let its = c.requires.first in
    record {
      one = maybe_at (state_of g.W.Partial.sets g.W.Transfer.moves g.R.RowRules.rules g.B.ByteFacts.store c.args.self.now) c.requires.settled c.args.moment c.args.a (omega arith) c.args.first c.entry-best.result c.entry-best.ensures.found its.0;
      only = only_first (state_of g.W.Partial.sets g.W.Transfer.moves g.R.RowRules.rules g.B.ByteFacts.store c.args.self.now) c.requires.settled c.args.moment c.args.a (omega arith) c.args.first c.entry-best.result.row its.2;
    }

pub returns-in_default-clause-only : goal.returns-in_default-clause-only
returns-in_default-clause-only g c = only_none (state_of g.W.Partial.sets g.W.Transfer.moves g.R.RowRules.rules g.B.ByteFacts.store c.args.self.now) c.requires.settled c.args.moment c.args.a (omega arith) c.loop-j.k c.loop-j.best (none_least (IsBegunEntry (spot c.args.moment c.args.a) (state_of g.W.Partial.sets g.W.Transfer.moves g.R.RowRules.rules g.B.ByteFacts.store c.args.self.now)) c.loop-j.k c.next_begun.result c.in_default.not-Some c.next_begun.ensures.next) c.loop-j.invariant.only

pub loop-j-preserved : goal.loop-j-preserved
loop-j-preserved g c =
    let its = rw c.in-Some.is at c.next_begun.ensures.next in
    let i = c.loop-j.invariant in
    record {
      one = newer_one (state_of g.W.Partial.sets g.W.Transfer.moves g.R.RowRules.rules g.B.ByteFacts.store c.args.self.now) c.requires.settled c.args.moment c.args.a (omega arith) c.loop-j.k c.in-Some.j c.loop-j.best c.later_of-best.result c.entry-row.result c.entry-row.ensures.found its i.one i.only c.later_of-best.ensures;
      only = newer_only (state_of g.W.Partial.sets g.W.Transfer.moves g.R.RowRules.rules g.B.ByteFacts.store c.args.self.now) c.requires.settled c.args.moment c.args.a (omega arith) c.loop-j.k c.in-Some.j c.loop-j.best c.later_of-best.result c.entry-row.result c.entry-row.ensures.found its i.one i.only c.later_of-best.ensures;
    }

pub entry-row-requires-clause-within : goal.entry-row-requires-clause-within
entry-row-requires-clause-within g c = rw c.in-Some.is at c.next_begun.ensures.inside

pub overflow_add-k : goal.overflow_add-k
overflow_add-k g c =
    let few = rw c.in-Some.is at c.next_begun.ensures.few in
    omega (arith, few)

pub loop-j-smaller : goal.loop-j-smaller
loop-j-smaller g c =
    let from = (rw c.in-Some.is at c.next_begun.ensures.next).1 in
    let inside = rw c.in-Some.is at c.next_begun.ensures.inside in
    omega (arith, from, inside)
