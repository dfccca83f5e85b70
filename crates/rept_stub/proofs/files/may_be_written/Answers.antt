use Rattle.std.proofs.Common.{◌≤◌, ◌∙◌, ◌||◌, ap, arith, length, sym, Bool, drop, ◌+◌}
use Rattle.std.specs.List.{list_any}
use Rattle.rept_elf.specs.Image.{segment_of, segments_of}
use Rattle.rept_dump.specs.Memory.{may_be_written}
use Rattle.rept_dump.proofs.SearchLemmas.{any-from, none-from}
use Rattle.rept_stub.proofs.files.may_be_written.Goals as goal

pub returns-then-is_written : goal.returns-then-is_written
returns-then-is_written c =
    let ss = segments_of c.args.core.now in
    let test = may_be_written c.args.a in
    let hit = sym c.is_written.ensures ∙ c.if-is_written.true in
    sym (c.loop-i.invariant ∙ any-from test ss c.loop-i.i (segment_of c.segment.result) c.segment.ensures.segment ∙ ap (λ (b : Bool). b || list_any test (drop (c.loop-i.i + 1) ss)) hit)

pub loop-i-preserved : goal.loop-i-preserved
loop-i-preserved c =
    let ss = segments_of c.args.core.now in
    let test = may_be_written c.args.a in
    let miss = sym c.is_written.ensures ∙ c.if-is_written.false in
    c.loop-i.invariant ∙ any-from test ss c.loop-i.i (segment_of c.segment.result) c.segment.ensures.segment ∙ ap (λ (b : Bool). b || list_any test (drop (c.loop-i.i + 1) ss)) miss

pub returns : goal.returns
returns c =
    let ss = segments_of c.args.core.now in
    let test = may_be_written c.args.a in
    let past : length ss ≤ c.loop-i.i = (let count = c.count-i-end.ensures.count in let over = c.loop-i-test.false in omega (arith, count, over)) in
    sym (c.loop-i.invariant ∙ none-from test ss c.loop-i.i past)
