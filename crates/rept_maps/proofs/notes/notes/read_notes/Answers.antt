use Rattle.std.proofs.Common.{◌≡◌, ℕ, ◌+◌, ◌-◌, length, subst}
use Rattle.rept_maps.specs.Notes.Notes.{first_note}
use Rattle.rept_maps.specs.Notes.Found.{note_of}
use Rattle.rept_maps.proofs.NotesLemmas.NoteLemmas.{one_more_note}
use Rattle.rept_maps.proofs.notes.notes.read_notes.Goals as goal

pub loop-rest-preserved : goal.loop-rest-preserved
loop-rest-preserved c =
    let bytes = c.args.bytes.now in
    let rest = c.loop-rest.rest.now in
    let placed : first_note (c.args.offset + (length bytes - length rest)) rest ≡ note_of c.in-Some.begun.note =
    subst (λ (o : ℕ). first_note (o + (length bytes - length rest)) rest ≡ note_of c.in-Some.begun.note) c.from.ensures c.in-Some.ensures.1 in
    one_more_note _ _ _ _ _ _ _ _ _ c.loop-rest.invariant c.in-Some.ensures.0 placed c.in-Some.ensures.2 c.add_note-now.ensures
