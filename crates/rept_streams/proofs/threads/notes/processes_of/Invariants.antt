use Rattle.std.proofs.Common.{◌≡◌, map, take}
use Rattle.rept_streams.specs.declared.threads.notes.KeptNote.{KeptNote}
use Rattle.rept_streams.proofs.threads.notes.processes_of.Given as goal

abbrev pub invariant-loop-note : goal.invariant-loop-note
invariant-loop-note l = l.processes.items ≡ map (λ (n : KeptNote). n.process) (take l.note-index l.notes)
