use Rattle.std.proofs.Common.{◌≤◌, ◌∙◌, arith, length, sym, true, false}
use Rattle.rept_elf.specs.Image.{segment_of, segments_of}
use Rattle.rept_opening.proofs.BeyondLemmas.{loaded-only, loaded-past, loaded-skips}
use Rattle.rept_opening.proofs.premises.loaded_at.Goals as goal

pub returns-then-has_page_after : goal.returns-then-has_page_after
returns-then-has_page_after c =
    let ss = segments_of c.args.program.now in
    let s = segment_of c.segment-segment.result in
    let hit = sym c.has_page.ensures ∙ c.if-has_page.true in
    sym (c.loop-i.invariant ∙ loaded-only c.args.a ss c.loop-i.i s c.segment-segment.ensures.segment hit true (sym c.if-has_page_after.true ∙ c.has_page_after.ensures))

pub returns-then-has_page : goal.returns-then-has_page
returns-then-has_page c =
    let ss = segments_of c.args.program.now in
    let s = segment_of c.segment-segment.result in
    let hit = sym c.has_page.ensures ∙ c.if-has_page.true in
    c.loaded_byte.ensures ∙ sym (c.loop-i.invariant ∙ loaded-only c.args.a ss c.loop-i.i s c.segment-segment.ensures.segment hit false (sym c.if-has_page_after.false ∙ c.has_page_after.ensures))

pub loop-i-preserved : goal.loop-i-preserved
loop-i-preserved c =
    let ss = segments_of c.args.program.now in
    let s = segment_of c.segment-segment.result in
    let miss = sym c.has_page.ensures ∙ c.if-has_page.false in
    c.loop-i.invariant ∙ loaded-skips c.args.a ss c.loop-i.i s c.segment-segment.ensures.segment miss

pub returns : goal.returns
returns c =
    let ss = segments_of c.args.program.now in
    let past : length ss ≤ c.loop-i.i = (let count = c.count-i-end.ensures.count in let over = c.loop-i-test.false in omega (arith, count, over)) in
    sym (c.loop-i.invariant ∙ loaded-past c.args.a ss c.loop-i.i past)
