use Rattle.std.proofs.Common.{arith}
use Rattle.rept_timeline.proofs.Earliest.{close_none, close_some, none_more}
use Rattle.rept_timeline.proofs.closing.close_from.Goals as goal

pub returns-in-None : goal.returns-in-None
returns-in-None c = close_none c.args.many.now c.args.row c.args.least c.loop-first.from c.loop-first.invariant.up c.loop-first.invariant.none c.in-None.ensures

pub returns-then-found-last : goal.returns-then-found-last
returns-then-found-last c =
    let less = c.if-found-last.true in
    close_some c.args.many.now c.args.row c.args.least c.loop-first.from c.loop-first.invariant.up c.loop-first.invariant.none c.in-Some.first c.first_close-found.result c.in-Some.ensures c.first_close-found.ensures.low (c.last_of-last.ensures.rows c.first_close-found.result c.first_close-found.ensures.low less) c.first_close-found.ensures.before (c.first_close-found.ensures.after c.first_close-found.result (omega arith) less)

pub loop-first-preserved : goal.loop-first-preserved
loop-first-preserved c =
    let first = c.in-Some.ensures.1 in
    let up = c.loop-first.invariant.up in
    let more = c.last_of-last.ensures.up in
    let over = c.if-found-last.false in
    record {
      up = omega arith;
      none = none_more c.args.many.now c.args.row c.args.least c.loop-first.from c.loop-first.invariant.up c.loop-first.invariant.none c.in-Some.first c.last_of-last.result c.in-Some.ensures (λ i above below. c.first_close-found.ensures.before i above (omega arith));
    }
