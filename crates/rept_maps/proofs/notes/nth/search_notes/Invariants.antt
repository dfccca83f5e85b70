use Rattle.std.proofs.Common.{length}
use Rattle.rept_maps.specs.Notes.Sought.{is_sought}
use Rattle.rept_maps.proofs.NotesLemmas.NthLemmas.{Passed}
use Rattle.rept_maps.proofs.notes.nth.search_notes.Given as goal

abbrev pub invariant-loop-rest : goal.invariant-loop-rest
invariant-loop-rest l = Passed (is_sought l.kind) l.offset l.bytes l.rest l.fn.skip l.left

abbrev pub decreases-loop-rest : goal.decreases-loop-rest
decreases-loop-rest l = length l.rest
