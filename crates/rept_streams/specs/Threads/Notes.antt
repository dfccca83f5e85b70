-- The notes of threads as they are kept. This project's own.
use Rattle.rept_streams.specs.Slices.Joins.{ThreadNote}
use Rattle.rept_streams.specs.declared.threads.notes.KeptNote.{KeptNote}

abbrev pub known_by : KeptNote → ThreadNote
known_by n = record { process = n.process; pc = n.pc }
