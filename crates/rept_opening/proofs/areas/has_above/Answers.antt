use Rattle.std.proofs.Common.{◌≤◌, ◌∙◌, ◌||◌, ap, arith, length, sym, Bool, drop, ◌+◌}
use Rattle.std.specs.List.{list_any}
use Rattle.rept_elf.specs.Segments.{ElfSegment}
use Rattle.rept_elf.specs.Image.{segment_of, segments_of}
use Rattle.rept_opening.specs.Beyond.{lies_above}
use Rattle.rept_dump.proofs.SearchLemmas.{any-from, none-from}
use Rattle.rept_opening.proofs.areas.has_above.Goals as goal

pub returns-then-lies_above : goal.returns-then-lies_above
returns-then-lies_above c =
    let ss = segments_of c.args.core.now in
    let test : ElfSegment → Bool = lies_above c.args.a in
    let hit = sym c.lies_above.ensures ∙ c.if-lies_above.true in
    sym (c.loop-i.invariant ∙ any-from test ss c.loop-i.i (segment_of c.segment.result) c.segment.ensures.segment ∙ ap (λ (b : Bool). b || list_any test (drop (c.loop-i.i + 1) ss)) hit)

pub loop-i-preserved : goal.loop-i-preserved
loop-i-preserved c =
    let ss = segments_of c.args.core.now in
    let test : ElfSegment → Bool = lies_above c.args.a in
    let miss = sym c.lies_above.ensures ∙ c.if-lies_above.false in
    c.loop-i.invariant ∙ any-from test ss c.loop-i.i (segment_of c.segment.result) c.segment.ensures.segment ∙ ap (λ (b : Bool). b || list_any test (drop (c.loop-i.i + 1) ss)) miss

pub returns : goal.returns
returns c =
    let ss = segments_of c.args.core.now in
    let test : ElfSegment → Bool = lies_above c.args.a in
    let past : length ss ≤ c.loop-i.i = (let count = c.count-i-end.ensures.count in let over = c.loop-i-test.false in omega (arith, count, over)) in
    sym (c.loop-i.invariant ∙ none-from test ss c.loop-i.i past)
