use Rattle.std.proofs.Common.{◌≤◌, ◌∙◌, ◌||◌, ap, arith, length, sym, Bool, drop, ◌+◌}
use Rattle.std.specs.List.{list_any}
use Rattle.rept_elf.specs.Image.{segment_of, segments_of}
use Rattle.rept_opening.specs.Beyond.{has_page}
use Rattle.rept_dump.proofs.SearchLemmas.{any-from, none-from}
use Rattle.rept_opening.proofs.premises.has_page_after.Goals as goal

pub returns-then-has_page : goal.returns-then-has_page
returns-then-has_page c =
    let ss = segments_of c.args.program.now in
    let test = has_page c.args.a in
    let hit = sym c.has_page.ensures ∙ c.if-has_page.true in
    sym (c.loop-i.invariant ∙ any-from test ss c.loop-i.i (segment_of c.segment.result) c.segment.ensures.segment ∙ ap (λ (b : Bool). b || list_any test (drop (c.loop-i.i + 1) ss)) hit)

pub loop-i-preserved : goal.loop-i-preserved
loop-i-preserved c =
    let ss = segments_of c.args.program.now in
    let test = has_page c.args.a in
    let miss = sym c.has_page.ensures ∙ c.if-has_page.false in
    c.loop-i.invariant ∙ any-from test ss c.loop-i.i (segment_of c.segment.result) c.segment.ensures.segment ∙ ap (λ (b : Bool). b || list_any test (drop (c.loop-i.i + 1) ss)) miss

pub returns : goal.returns
returns c =
    let ss = segments_of c.args.program.now in
    let test = has_page c.args.a in
    let past : length ss ≤ c.loop-i.i = (let count = c.count-i-end.ensures.count in let over = c.loop-i-test.false in omega (arith, count, over)) in
    sym (c.loop-i.invariant ∙ none-from test ss c.loop-i.i past)
