use Rattle.std.proofs.Common.{◌≡◌, ◌≤◌, ◌∙◌, true, false, ap, arith, length, sym}
use Rattle.std.specs.Option.{option_and_then, option_map}
use Rattle.rept_elf.specs.Image.{file_of}
use Rattle.rept_elf.proofs.SymbolLemmas.{find_hit, find_miss, find_none}
use Rattle.rept_maps.specs.Views.{desc_of}
use Rattle.rept_maps.specs.Mapped.Mapped.{Mapping, mappings}
use Rattle.rept_maps.proofs.MappedLemmas.Searches.{length-mappings_from, mapping_is}
use Rattle.rept_stub.specs.CrashFiles.{has_address, loaded_at}
use Rattle.rept_stub.proofs.loading.loaded_in.Goals as goal

pub returns-then-has_address : goal.returns-then-has_address
returns-then-has_address c =
    let ms = mappings (desc_of c.args.maps.now) c.args.images.now in
    let m : Mapping = record { start = c.place-place.result.start; end = c.place-place.result.end; offset = c.place-place.result.offset; file = option_map file_of c.image-image.result } in
    let place = c.place-place.ensures in
    let at = mapping_is (desc_of c.args.maps.now) c.args.images.now c.loop-i.i c.image-image.result m.start m.end m.offset c.image-image.ensures place.start place.end place.offset in
    let hit : has_address c.args.entry m ≡ true = sym c.has_address.ensures ∙ c.if-has_address.true in
    c.loaded_by.ensures ∙ sym (ap (option_and_then (λ (x : Mapping). option_and_then (loaded_at c.args.entry) x.file)) (c.loop-i.invariant ∙ find_hit (has_address c.args.entry) ms c.loop-i.i m at hit))

pub loop-i-preserved : goal.loop-i-preserved
loop-i-preserved c =
    let ms = mappings (desc_of c.args.maps.now) c.args.images.now in
    let m : Mapping = record { start = c.place-place.result.start; end = c.place-place.result.end; offset = c.place-place.result.offset; file = option_map file_of c.image-image.result } in
    let place = c.place-place.ensures in
    let at = mapping_is (desc_of c.args.maps.now) c.args.images.now c.loop-i.i c.image-image.result m.start m.end m.offset c.image-image.ensures place.start place.end place.offset in
    let miss : has_address c.args.entry m ≡ false = sym c.has_address.ensures ∙ c.if-has_address.false in
    c.loop-i.invariant ∙ find_miss (has_address c.args.entry) ms c.loop-i.i m at miss

pub returns : goal.returns
returns c =
    let ms = mappings (desc_of c.args.maps.now) c.args.images.now in
    let long : length ms ≡ length c.args.images.now = length-mappings_from (desc_of c.args.maps.now) 0 c.args.images.now in
    let places = c.requires in
    let past : length ms ≤ c.loop-i.i = omega (arith, long, places, c.count-i-end.ensures.count, c.loop-i-test.false) in
    sym (ap (option_and_then (λ (x : Mapping). option_and_then (loaded_at c.args.entry) x.file)) (c.loop-i.invariant ∙ find_none (has_address c.args.entry) ms c.loop-i.i past))
