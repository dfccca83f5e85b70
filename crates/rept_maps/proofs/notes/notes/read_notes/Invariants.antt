use Rattle.std.proofs.Common.{length}
use Rattle.rept_maps.specs.Notes.Found.{wanted}
use Rattle.rept_maps.proofs.NotesLemmas.NoteLemmas.{SoFar}
use Rattle.rept_maps.proofs.notes.notes.read_notes.Given as goal

abbrev pub invariant-loop-rest : goal.invariant-loop-rest
invariant-loop-rest l = SoFar (wanted l.sought) l.offset l.bytes l.rest l.fn.found l.now

abbrev pub decreases-loop-rest : goal.decreases-loop-rest
decreases-loop-rest l = length l.rest
