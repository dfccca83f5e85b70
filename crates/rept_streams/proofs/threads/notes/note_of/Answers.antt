use Rattle.rept_streams.proofs.threads.notes.note_of.Goals as goal

pub returns : goal.returns
returns c = λ descs h.
    let d = c.status_of-status.ensures descs h in
    (d.0, d.1, (λ i. record { process = d.2.pid i; pc = d.2.pc i }))
