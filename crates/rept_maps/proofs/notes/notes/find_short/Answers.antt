use Rattle.std.proofs.Common.{length}
use Rattle.rept_elf.specs.Image.{file_of, segments_of}
use Rattle.rept_maps.specs.Notes.Found.{said_of}
use Rattle.rept_maps.specs.Notes.Sought.{is_short}
use Rattle.rept_maps.proofs.NotesLemmas.NoteLemmas.{says, said_once}
use Rattle.rept_maps.proofs.notes.notes.find_short.Goals as goal

pub returns-clause-said : goal.returns-clause-said
returns-clause-said c = says (is_short c.args.kind c.args.least) (length (file_of c.args.core.now)) (segments_of c.args.core.now) c.read_core.result c.read_core.ensures.ok c.read_core.ensures.cut

pub returns-clause-only : goal.returns-clause-only
returns-clause-only c said h =
    said_once (is_short c.args.kind c.args.least) (length (file_of c.args.core.now)) (segments_of c.args.core.now) said (said_of c.read_core.result) h
    (says (is_short c.args.kind c.args.least) (length (file_of c.args.core.now)) (segments_of c.args.core.now) c.read_core.result c.read_core.ensures.ok c.read_core.ensures.cut)
