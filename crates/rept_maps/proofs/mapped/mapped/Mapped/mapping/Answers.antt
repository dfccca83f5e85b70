use Rattle.rept_maps.specs.Views.{desc_of}
use Rattle.rept_maps.proofs.MappedLemmas.Searches.{mapping_is}
use Rattle.rept_maps.proofs.mapped.mapped.Mapped.mapping.Goals as goal

pub returns-clause-mapping : goal.returns-clause-mapping
returns-clause-mapping c =
    let place = c.place-place.ensures in
    mapping_is (desc_of c.args.self.now.maps) c.args.self.now.images.now c.args.i c.image.result c.place-place.result.start c.place-place.result.end c.place-place.result.offset c.image.ensures place.start place.end place.offset
