use Rattle.std.proofs.Common.{sym, ◌∙◌, arith}
use Rattle.rept_timeline.proofs.Fronts.{stores_row}
use Rattle.rept_timeline.proofs.Lists.{listed_stores}
use Rattle.rept_timeline.proofs.Acting.{open_none, open_some, past_more}
use Rattle.rept_timeline.proofs.opening.open_from.Goals as goal

pub returns-in-None : goal.returns-in-None
returns-in-None c = open_none c.args.many.now c.args.storing.now c.requires.listed c.args.m c.args.least c.loop-row.from c.loop-row.invariant.up c.loop-row.invariant.past c.in-None.ensures

pub is_past-requires : goal.is_past-requires
is_past-requires c = stores_row c.args.many.now c.in-Some.row (listed_stores c.args.many.now c.args.storing.now c.requires.listed c.in-Some.row c.in-Some.ensures.0)

pub returns-then-not-is_past : goal.returns-then-not-is_past
returns-then-not-is_past c = open_some c.args.many.now c.args.storing.now c.requires.listed c.args.m c.args.least c.loop-row.from c.loop-row.invariant.up c.loop-row.invariant.past c.in-Some.row c.in-Some.ensures (sym c.is_past.ensures ∙ c.if-not-is_past.true)

pub past_end-from-requires-clause-row : goal.past_end-from-requires-clause-row
past_end-from-requires-clause-row c = stores_row c.args.many.now c.in-Some.row (listed_stores c.args.many.now c.args.storing.now c.requires.listed c.in-Some.row c.in-Some.ensures.0)

pub loop-row-preserved : goal.loop-row-preserved
loop-row-preserved c =
    let first = c.in-Some.ensures.1 in
    let up = c.loop-row.invariant.up in
    let more = c.past_end-from.ensures.up in
    record {
      up = omega arith;
      past = past_more c.args.many.now c.args.storing.now c.requires.listed c.args.m c.args.least c.loop-row.from c.loop-row.invariant.up c.loop-row.invariant.past c.in-Some.row c.past_end-from.result c.in-Some.ensures c.past_end-from.ensures.past;
    }
