use Rattle.std.proofs.Common.{◌≤◌, ◌∙◌, arith, length, sym}
use Rattle.rept_elf.specs.Image.{segment_of, segments_of}
use Rattle.rept_opening.proofs.AreaLemmas.{area-here, area-past, area-skips}
use Rattle.rept_opening.proofs.areas.area_from.Goals as goal

pub returns-then-lies_in : goal.returns-then-lies_in
returns-then-lies_in c =
    let ss = segments_of c.args.core.now in
    let s = segment_of c.segment-segment.result in
    let hit = sym c.lies_in.ensures ∙ c.if-lies_in.true in
    sym (c.loop-i.invariant ∙ area-here c.args.a ss c.loop-i.i s c.segment-segment.ensures.segment hit)

pub loop-i-preserved : goal.loop-i-preserved
loop-i-preserved c =
    let ss = segments_of c.args.core.now in
    let s = segment_of c.segment-segment.result in
    let miss = sym c.lies_in.ensures ∙ c.if-lies_in.false in
    c.loop-i.invariant ∙ area-skips c.args.a ss c.loop-i.i s c.segment-segment.ensures.segment miss

pub returns : goal.returns
returns c =
    let ss = segments_of c.args.core.now in
    let past : length ss ≤ c.loop-i.i = (let count = c.count-i-end.ensures.count in let over = c.loop-i-test.false in omega (arith, count, over)) in
    sym (c.loop-i.invariant ∙ area-past c.args.a ss c.loop-i.i past)
