use Rattle.std.proofs.Common.{length, refl}
use Rattle.rept_elf.specs.Image.{file_of, segments_of}
use Rattle.rept_maps.proofs.NotesLemmas.NoteLemmas.{found_said, cut_said}
use Rattle.rept_dump.specs.Registers.{is_status}
use Rattle.rept_dump.proofs.notes.read_core.Goals as goal

pub returns-in-Ok-clause-ok : goal.returns-in-Ok-clause-ok
returns-in-Ok-clause-ok c = found_said is_status (length (file_of c.args.core.now)) (segments_of c.args.core.now) c.in-Ok.found c.in-Ok.ensures.said

pub returns-in-Err-clause-cut : goal.returns-in-Err-clause-cut
returns-in-Err-clause-cut c = (c.in-Err.cut.offset, cut_said is_status (length (file_of c.args.core.now)) (segments_of c.args.core.now) c.in-Err.cut.offset c.in-Err.ensures.said, refl)
