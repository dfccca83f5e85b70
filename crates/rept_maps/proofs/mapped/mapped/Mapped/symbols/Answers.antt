use Rattle.std.proofs.Common.{◌≡◌, ◌≤◌, arith, length, map, ◌∙◌}
use Rattle.rept_maps.specs.Views.{desc_of}
use Rattle.rept_maps.specs.Mapped.Mappings.{mappings_of}
use Rattle.rept_maps.specs.Mapped.Views.{asked_of}
use Rattle.rept_maps.proofs.MappedLemmas.NamingLemmas.{all_named, ends_alike, far_more}
use Rattle.rept_maps.proofs.MappedLemmas.Searches.{length-mappings_from}
use Rattle.rept_maps.proofs.mapped.mapped.Mapped.symbols.Goals as goal

pub loop-i-preserved : goal.loop-i-preserved
loop-i-preserved c =
    let ms = mappings_of c.args.self.now in
    let before = map asked_of c.loop-i.asked.items in
    let after = map asked_of c.in_ok-asked-2.asked.items in
    (ends_alike ms c.loop-i.i before after c.in_ok-asked-2.ensures ∙ c.loop-i.invariant.0, far_more ms c.loop-i.i before after c.in_ok-asked-2.ensures c.loop-i.invariant.1)

pub returns : goal.returns
returns c =
    let m = c.args.self.now in
    let long : length (mappings_of m) ≡ length m.images.now = length-mappings_from (desc_of m.maps) 0 m.images.now in
    let places = m.places in
    let past : length (mappings_of m) ≤ c.loop-i.i = omega (arith, long, places, c.count-i-end.ensures.count, c.loop-i-test.false) in
    all_named (mappings_of m) c.loop-i.i c.loop-i.asked.items c.as_slice.result.now c.args.addresses.now c.found_of.result past c.as_slice.ensures.value c.found_of.ensures c.loop-i.invariant.1 c.loop-i.invariant.0
