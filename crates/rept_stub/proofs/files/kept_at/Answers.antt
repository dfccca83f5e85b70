use Rattle.std.proofs.Common.{◌≤◌, ◌+◌, ◌∙◌, Option, ap, arith, drop, length, sym}
use Rattle.std.specs.Option.{option_or}
use Rattle.rept_elf.specs.Image.{segment_of, segments_of}
use Rattle.rept_dump.specs.Memory.{kept_at}
use Rattle.rept_stub.proofs.Kept.{kept-from, kept-past}
use Rattle.rept_stub.proofs.files.kept_at.Goals as goal

pub returns-in-Some : goal.returns-in-Some
returns-in-Some c =
    let ss = segments_of c.args.executable.now in
    let s = segment_of c.segment.result in
    let here = sym c.byte_in.ensures ∙ c.in-Some.is in
    sym (c.loop-i.invariant ∙ kept-from c.args.a ss c.loop-i.i s c.segment.ensures.segment ∙ ap (λ o. option_or o (kept_at (drop (c.loop-i.i + 1) ss) c.args.a)) here)

pub loop-i-preserved : goal.loop-i-preserved
loop-i-preserved c =
    let ss = segments_of c.args.executable.now in
    let s = segment_of c.segment.result in
    let miss = sym c.byte_in.ensures ∙ c.in-None.is in
    c.loop-i.invariant ∙ kept-from c.args.a ss c.loop-i.i s c.segment.ensures.segment ∙ ap (λ o. option_or o (kept_at (drop (c.loop-i.i + 1) ss) c.args.a)) miss

pub returns : goal.returns
returns c =
    let ss = segments_of c.args.executable.now in
    let past : length ss ≤ c.loop-i.i = (let count = c.count-i-end.ensures.count in let over = c.loop-i-test.false in omega (arith, count, over)) in
    sym (c.loop-i.invariant ∙ kept-past c.args.a ss c.loop-i.i past)
