use Rattle.std.proofs.Common.{◌≡◌, ℕ, List, length, map, take}
use Rattle.rept_dump.specs.Dump.{HasThreads, threads_of}
use Rattle.rept_streams.specs.Threads.Notes.{known_by}
use Rattle.rept_streams.specs.Slices.Raw.{note_in}
use Rattle.rept_streams.proofs.threads.notes.notes_of.Given as goal

abbrev pub invariant-loop-t : goal.invariant-loop-t
invariant-loop-t l = (descs : List (List ℕ)) → HasThreads l.dump descs → threads_of l.dump ≡ length descs → map known_by l.notes.items ≡ map note_in (take l.t descs)
