use Rattle.std.proofs.Common.{length}
use Rattle.std.specs.Option.{option_map}
use Rattle.rept_elf.specs.Image.{file_of, segments_of}
use Rattle.rept_maps.specs.Notes.Found.{note_of}
use Rattle.rept_maps.specs.Views.{said_of}
use Rattle.rept_maps.proofs.MapLemmas.{cut_says, first_says, maps_once, past_end}
use Rattle.rept_maps.proofs.maps.Maps.read.Goals as goal

pub returns-in-Err-clause-only : goal.returns-in-Err-clause-only
returns-in-Err-clause-only c said h =
    let size = length (file_of c.args.core) in
    maps_once size (segments_of c.args.core) said (past_end c.in-Err.cut.offset) h (cut_says size c.in-Err.cut.offset (segments_of c.args.core) c.in-Err.ensures.said)

pub returns-clause-only : goal.returns-clause-only
returns-clause-only c said h =
    let size = length (file_of c.args.core) in
    maps_once size (segments_of c.args.core) said (said_of c.of_first.result) h
    (first_says size c.in-Ok.found.count (segments_of c.args.core) (option_map note_of c.in-Ok.found.first) (said_of c.of_first.result) c.in-Ok.ensures.said c.of_first.ensures)
