use Rattle.std.proofs.Common.{length}
use Rattle.rept_elf.specs.Image.{file_of, segments_of}
use Rattle.rept_maps.specs.Notes.Sought.{is_sought}
use Rattle.rept_maps.proofs.NotesLemmas.NthLemmas.{Segmented}
use Rattle.rept_maps.proofs.notes.nth.find_nth.Given as goal

abbrev pub invariant-loop-i : goal.invariant-loop-i
invariant-loop-i l = Segmented (is_sought l.kind) (length (file_of l.core)) (segments_of l.core) l.i l.fn.skip l.left
