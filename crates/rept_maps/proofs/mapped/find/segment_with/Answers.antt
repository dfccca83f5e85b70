use Rattle.std.proofs.Common.{◌≡◌, true, false, ap, sym, ◌∙◌}
use Rattle.rept_elf.specs.Image.{segments_of, segment_of}
use Rattle.rept_elf.proofs.SymbolLemmas.{find_miss}
use Rattle.rept_maps.specs.Mapped.Mapped.{has_all, has_some, offsets}
use Rattle.rept_maps.proofs.MappedLemmas.Searches.{met_whole, met_in_part}
use Rattle.rept_maps.proofs.mapped.find.segment_with.Goals as goal

pub returns-then-has_all-clause-segment : goal.returns-then-has_all-clause-segment
returns-then-has_all-clause-segment c =
    let s = segment_of c.segment-segment.result in
    let hit : has_some c.args.count c.args.offset (offsets s) ≡ true = sym (c.has_some.ensures ∙ ap (has_some c.args.count c.args.offset) c.offsets-bounds.ensures.value) ∙ c.if-has_some.true in
    let all : has_all c.args.count c.args.offset (offsets s) ≡ true = sym (c.has_all.ensures ∙ ap (has_all c.args.count c.args.offset) c.offsets-bounds.ensures.value) ∙ c.if-has_all.true in
    sym (met_whole offsets c.args.count c.args.offset (segments_of c.args.image.now) c.loop-i.i s c.loop-i.invariant c.segment-segment.ensures.segment hit all)

pub returns-then-has_some-clause-segment : goal.returns-then-has_some-clause-segment
returns-then-has_some-clause-segment c =
    let s = segment_of c.segment-segment.result in
    let hit : has_some c.args.count c.args.offset (offsets s) ≡ true = sym (c.has_some.ensures ∙ ap (has_some c.args.count c.args.offset) c.offsets-bounds.ensures.value) ∙ c.if-has_some.true in
    let part : has_all c.args.count c.args.offset (offsets s) ≡ false = sym (c.has_all.ensures ∙ ap (has_all c.args.count c.args.offset) c.offsets-bounds.ensures.value) ∙ c.if-has_all.false in
    sym (met_in_part offsets c.args.count c.args.offset (segments_of c.args.image.now) c.loop-i.i s c.loop-i.invariant c.segment-segment.ensures.segment hit part)

pub loop-i-preserved : goal.loop-i-preserved
loop-i-preserved c =
    let s = segment_of c.segment-segment.result in
    let miss : has_some c.args.count c.args.offset (offsets s) ≡ false = sym (c.has_some.ensures ∙ ap (has_some c.args.count c.args.offset) c.offsets-bounds.ensures.value) ∙ c.if-has_some.false in
    c.loop-i.invariant ∙ find_miss (λ x. has_some c.args.count c.args.offset (offsets x)) (segments_of c.args.image.now) c.loop-i.i s c.segment-segment.ensures.segment miss
