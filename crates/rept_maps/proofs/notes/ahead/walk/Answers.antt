use Rattle.rept_maps.specs.Notes.Found.{wanted}
use Rattle.rept_maps.proofs.NotesLemmas.Leaping.{one_more_ahead}
use Rattle.rept_maps.proofs.notes.ahead.walk.Goals as goal

pub loop-ahead-preserved : goal.loop-ahead-preserved
loop-ahead-preserved c =
    one_more_ahead (wanted c.args.sought) c.args.at c.args.bytes.now c.loop-ahead.ahead (record { found = c.add_note.result; rest = c.in-Some.begun.after }) _ c.loop-ahead.invariant c.in-Some.ensures.0 c.in-Some.ensures.1 c.in-Some.ensures.2 c.add_note.ensures
