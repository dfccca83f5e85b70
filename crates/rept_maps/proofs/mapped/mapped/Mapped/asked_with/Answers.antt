use Rattle.std.proofs.Common.{◌≡◌, map, sym, ap, ◌∙◌, Some}
use Rattle.std.specs.Option.{option_map}
use Rattle.rept_elf.specs.Image.{file_of}
use Rattle.rept_maps.specs.Views.{desc_of}
use Rattle.rept_maps.specs.Mapped.Mappings.{mappings_of}
use Rattle.rept_maps.specs.Mapped.Naming.{file_at, some_in}
use Rattle.rept_maps.specs.Mapped.Views.{asked_of}
use Rattle.rept_maps.proofs.MappedLemmas.NamingLemmas.{file_of_image, none_in, some_with_image, without_image}
use Rattle.rept_maps.proofs.mapped.mapped.Mapped.asked_with.Goals as goal

pub returns-then-not-has_home : goal.returns-then-not-has_home
returns-then-not-has_home c =
    let ms = mappings_of c.args.self.now in
    none_in ms c.args.i (map asked_of c.args.asked.items) (ap (λ xs. some_in c.args.i (map asked_of xs)) (sym c.as_slice.ensures.value) ∙ sym c.has_home.ensures ∙ c.if-not-has_home.true)

pub returns-in-Some : goal.returns-in-Some
returns-in-Some c =
    let m = c.args.self.now in
    let is : file_at (mappings_of m) c.args.i ≡ option_map file_of (Some c.in-Some.image) =
    file_of_image (desc_of m.maps) m.images.now c.args.i c.image.result c.image.ensures ∙ ap (option_map file_of) c.in-Some.is in
    some_with_image (mappings_of m) c.args.i (file_of c.in-Some.image) c.ask.result c.args.asked.items c.as_slice-in-Some.result.now is c.as_slice-in-Some.ensures.value c.ask.ensures

pub returns : goal.returns
returns c =
    let m = c.args.self.now in
    without_image (mappings_of m) c.args.i (map asked_of c.args.asked.items) (file_of_image (desc_of m.maps) m.images.now c.args.i c.image.result c.image.ensures ∙ ap (option_map file_of) c.in-None.is)
