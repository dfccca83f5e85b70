use Rattle.std.proofs.Common.{sym, ◌∙◌, arith}
use Rattle.rept_timeline.proofs.Lists.{sound_of}
use Rattle.rept_timeline.proofs.Acting.{from_inside, acting_none, acting_some, clear_more}
use Rattle.rept_timeline.proofs.opening.rest_from.Goals as goal

pub open_from-requires-clause-moment : goal.open_from-requires-clause-moment
open_from-requires-clause-moment c = from_inside c.args.many.now (sound_of c.args.many.now c.args.storing.now c.requires.listed) c.args.m c.args.w c.requires.next

pub returns-in-None : goal.returns-in-None
returns-in-None c = acting_none c.args.many.now (sound_of c.args.many.now c.args.storing.now c.requires.listed) c.args.m c.args.w c.requires.next c.requires.apart c.args.least c.loop-row.from c.loop-row.invariant.up c.loop-row.invariant.clear c.in-None.ensures

pub returns-then-not-is_ahead : goal.returns-then-not-is_ahead
returns-then-not-is_ahead c = acting_some c.args.many.now (sound_of c.args.many.now c.args.storing.now c.requires.listed) c.args.m c.args.w c.requires.next c.requires.apart c.args.least c.loop-row.from c.loop-row.invariant.up c.loop-row.invariant.clear c.in-Some.row c.in-Some.ensures (sym c.is_ahead.ensures ∙ c.if-not-is_ahead.true)

pub loop-row-preserved : goal.loop-row-preserved
loop-row-preserved c =
    let first = c.in-Some.ensures.1 in
    let up = c.loop-row.invariant.up in
    let more = c.last_of-from.ensures.up in
    record {
      up = omega arith;
      clear = clear_more c.args.many.now (sound_of c.args.many.now c.args.storing.now c.requires.listed) c.args.m c.args.w c.requires.next c.requires.apart c.args.least c.loop-row.from c.loop-row.invariant.up c.loop-row.invariant.clear c.in-Some.row c.last_of-from.result c.in-Some.ensures (sym c.is_ahead.ensures ∙ c.if-not-is_ahead.false) c.last_of-from.ensures.rows;
    }
