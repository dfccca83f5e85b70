use Rattle.std.proofs.Common.{refl, arith}
use Rattle.rept_streams.proofs.ThreadsLemmas.NoteLemmas.{one_noted, all_noted}
use Rattle.rept_streams.proofs.threads.notes.notes_of.Goals as goal

pub loop-t-init : goal.loop-t-init
loop-t-init c = λ descs h e. rw c.new-notes.ensures.items refl

pub loop-t-preserved : goal.loop-t-preserved
loop-t-preserved c = λ descs h e.
    let d = c.note_of-note.ensures descs h in
    rw c.in_default.ensures.items (one_noted descs c.loop-t.t d.0 c.loop-t.notes.items c.note_of-note.result d.1 d.2 (c.loop-t.invariant descs h e))

pub returns-clause-ok : goal.returns-clause-ok
returns-clause-ok c = λ descs h e.
    let n = c.threads-t-end.ensures in
    let past = c.loop-t-test.false in
    all_noted descs c.loop-t.t c.loop-t.notes.items (omega (arith, n, e, past)) (c.loop-t.invariant descs h e)
