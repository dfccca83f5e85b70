use Rattle.std.proofs.Common.{◌≡◌, ◌≤◌, length, true, false, ap, sym, ◌∙◌, arith}
use Rattle.rept_elf.proofs.SymbolLemmas.{find_miss}
use Rattle.rept_maps.specs.Views.{desc_of}
use Rattle.rept_maps.specs.Mapped.Mapped.{addresses, has_all, has_some}
use Rattle.rept_maps.specs.Mapped.Mappings.{mappings_of}
use Rattle.rept_maps.specs.Mapped.Views.{mapping_of}
use Rattle.rept_maps.proofs.MappedLemmas.Searches.{length-mappings_from, met_whole, met_in_part, met_nowhere}
use Rattle.rept_maps.proofs.mapped.mapped.Mapped.mapping_with.Goals as goal

pub returns-then-has_all-clause-mapping : goal.returns-then-has_all-clause-mapping
returns-then-has_all-clause-mapping c =
    let m = mapping_of c.mapping-mapping.result in
    let hit : has_some c.args.count c.args.a (addresses m) ≡ true = sym (c.has_some.ensures ∙ ap (λ n. has_some c.args.count n c.addresses-bounds.result) c.from-at.ensures ∙ ap (has_some c.args.count c.args.a) c.addresses-bounds.ensures.value) ∙ c.if-has_some.true in
    let all : has_all c.args.count c.args.a (addresses m) ≡ true = sym (c.has_all.ensures ∙ ap (λ n. has_all c.args.count n c.addresses-bounds.result) c.from-at.ensures ∙ ap (has_all c.args.count c.args.a) c.addresses-bounds.ensures.value) ∙ c.if-has_all.true in
    sym (met_whole addresses c.args.count c.args.a (mappings_of c.args.self.now) c.loop-i.i m c.loop-i.invariant c.mapping-mapping.ensures.mapping hit all)

pub returns-then-has_some-clause-mapping : goal.returns-then-has_some-clause-mapping
returns-then-has_some-clause-mapping c =
    let m = mapping_of c.mapping-mapping.result in
    let hit : has_some c.args.count c.args.a (addresses m) ≡ true = sym (c.has_some.ensures ∙ ap (λ n. has_some c.args.count n c.addresses-bounds.result) c.from-at.ensures ∙ ap (has_some c.args.count c.args.a) c.addresses-bounds.ensures.value) ∙ c.if-has_some.true in
    let part : has_all c.args.count c.args.a (addresses m) ≡ false = sym (c.has_all.ensures ∙ ap (λ n. has_all c.args.count n c.addresses-bounds.result) c.from-at.ensures ∙ ap (has_all c.args.count c.args.a) c.addresses-bounds.ensures.value) ∙ c.if-has_all.false in
    sym (met_in_part addresses c.args.count c.args.a (mappings_of c.args.self.now) c.loop-i.i m c.loop-i.invariant c.mapping-mapping.ensures.mapping hit part)

pub loop-i-preserved : goal.loop-i-preserved
loop-i-preserved c =
    let m = mapping_of c.mapping-mapping.result in
    let miss : has_some c.args.count c.args.a (addresses m) ≡ false = sym (c.has_some.ensures ∙ ap (λ n. has_some c.args.count n c.addresses-bounds.result) c.from-at.ensures ∙ ap (has_some c.args.count c.args.a) c.addresses-bounds.ensures.value) ∙ c.if-has_some.false in
    c.loop-i.invariant ∙ find_miss (λ x. has_some c.args.count c.args.a (addresses x)) (mappings_of c.args.self.now) c.loop-i.i m c.mapping-mapping.ensures.mapping miss

pub returns-clause-mapping : goal.returns-clause-mapping
returns-clause-mapping c =
    let long : length (mappings_of c.args.self.now) ≡ length c.args.self.now.images.now = length-mappings_from (desc_of c.args.self.now.maps) 0 c.args.self.now.images.now in
    let places = c.args.self.now.places in
    let past : length (mappings_of c.args.self.now) ≤ c.loop-i.i = omega (arith, long, places, c.count-i-end.ensures.count, c.loop-i-test.false) in
    sym (met_nowhere addresses c.args.count c.args.a (mappings_of c.args.self.now) c.loop-i.i c.loop-i.invariant past)
