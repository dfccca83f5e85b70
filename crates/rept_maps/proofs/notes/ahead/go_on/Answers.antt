use Rattle.rept_maps.specs.Notes.Found.{wanted}
use Rattle.rept_maps.proofs.NotesLemmas.Leaping.{front_of_file}
use Rattle.rept_maps.proofs.notes.ahead.go_on.Goals as goal

pub pass-requires-clause-front : goal.pass-requires-clause-front
pass-requires-clause-front c =
    rw c.after.ensures (front_of_file (wanted c.args.sought) c.args.file.now c.args.segment.now.offset c.args.segment.now.filesz c.args.segment.now.body.now c.args.ahead c.requires.part c.requires.ahead)
