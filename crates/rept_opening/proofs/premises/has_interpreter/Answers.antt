use Rattle.std.proofs.Common.{◌≤◌, ◌∙◌, ◌||◌, ap, arith, length, sym, Bool, drop, ◌+◌}
use Rattle.std.specs.List.{list_any}
use Rattle.rept_elf.specs.Segments.{ElfSegment}
use Rattle.rept_elf.specs.Image.{segment_of, segments_of}
use Rattle.rept_opening.specs.Beyond.{is_interpreter}
use Rattle.rept_dump.proofs.SearchLemmas.{any-from, none-from}
use Rattle.rept_opening.proofs.premises.has_interpreter.Goals as goal

pub returns-then-is_interpreter : goal.returns-then-is_interpreter
returns-then-is_interpreter c =
    let ss = segments_of c.args.program.now in
    let test : ElfSegment → Bool = is_interpreter in
    let hit = sym c.is_interpreter.ensures ∙ c.if-is_interpreter.true in
    sym (c.loop-i.invariant ∙ any-from test ss c.loop-i.i (segment_of c.segment.result) c.segment.ensures.segment ∙ ap (λ (b : Bool). b || list_any test (drop (c.loop-i.i + 1) ss)) hit)

pub loop-i-preserved : goal.loop-i-preserved
loop-i-preserved c =
    let ss = segments_of c.args.program.now in
    let test : ElfSegment → Bool = is_interpreter in
    let miss = sym c.is_interpreter.ensures ∙ c.if-is_interpreter.false in
    c.loop-i.invariant ∙ any-from test ss c.loop-i.i (segment_of c.segment.result) c.segment.ensures.segment ∙ ap (λ (b : Bool). b || list_any test (drop (c.loop-i.i + 1) ss)) miss

pub returns : goal.returns
returns c =
    let ss = segments_of c.args.program.now in
    let test : ElfSegment → Bool = is_interpreter in
    let past : length ss ≤ c.loop-i.i = (let count = c.count-i-end.ensures.count in let over = c.loop-i-test.false in omega (arith, count, over)) in
    sym (c.loop-i.invariant ∙ none-from test ss c.loop-i.i past)
