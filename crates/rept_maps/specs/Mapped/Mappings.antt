-- The mappings of mapped images.
use Rattle.std.specs.Prelude.{List}
use Rattle.rept_maps.specs.Views.{desc_of}
use Rattle.rept_maps.specs.Mapped.Mapped.{Mapping, mappings}
use Rattle.rept_maps.specs.declared.mapped.mapped.Mapped.{Mapped}

abbrev pub mappings_of : Mapped → List Mapping
mappings_of m = mappings (desc_of m.maps) m.images.now
