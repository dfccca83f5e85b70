-- What the code's values stand for.
use Rattle.std.specs.Option.{option_map}
use Rattle.rept_elf.specs.Image.{file_of, segment_of}
use Rattle.rept_maps.specs.Mapped.Mapped as mapped
use Rattle.rept_elf.specs.Symbols.{symbol_of}
use Rattle.rept_maps.specs.Mapped.Naming.{AskedMapped}
use Rattle.rept_maps.specs.declared.mapped.find.Mapping.{Mapping}
use Rattle.rept_maps.specs.declared.mapped.find.BytesInFile.{BytesInFile}
use Rattle.rept_maps.specs.declared.mapped.naming.FunctionSearch.{FunctionSearch}

-- a mapping with its file
abbrev pub mapping_of : Mapping → mapped.Mapping
mapping_of m = record { start = m.start; end = m.end; offset = m.offset; file = option_map file_of m.image }

-- where some bytes stand
abbrev pub spot_of : BytesInFile → mapped.FileSpot
spot_of p = record { file = file_of p.image; segment = segment_of p.segment; place = p.place }

-- an address whose function is sought
abbrev pub asked_of : FunctionSearch → AskedMapped
asked_of a = record { home = a.home; found = option_map symbol_of a.found }
