use Rattle.std.proofs.Common.{length, ap, arith}
use Rattle.rept_span.proofs.Storing.{count_more, equal_more}
use Rattle.rept_span.proofs.spans.unknowns.Goals as goal

pub loop-init : goal.loop-init
loop-init g c = record {
  count = ap length c.new-v.ensures.items;
  unknown = λ k less. absurd (omega arith);
}

pub loop-preserved : goal.loop-preserved
loop-preserved g c =
    let i = c.loop.invariant in
    record {
      count = count_more c.loop.v.items c.push.new.self.items c.unknown.result c.loop.counter i.count c.in_ok-push.ensures.items;
      unknown = equal_more g.W.Partial.sets.unknown c.loop.v.items c.push.new.self.items c.unknown.result c.loop.counter i.count i.unknown c.unknown.ensures c.in_ok-push.ensures.items;
    }

pub returns-clause-length : goal.returns-clause-length
returns-clause-length g c =
    let past = c.loop-test.false in
    let most = c.loop.auto.counter-end in
    let count = c.loop.invariant.count in
    omega arith

pub returns-clause-unknown : goal.returns-clause-unknown
returns-clause-unknown g c =
    let past = c.loop-test.false in
    let most = c.loop.auto.counter-end in
    λ k less. c.loop.invariant.unknown k (omega arith)
