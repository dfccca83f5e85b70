use Rattle.rept_relate.proofs.storing.store_atomic.Goals as goal

pub returns-clause-keeps : goal.returns-clause-keeps
returns-clause-keeps c = λ value s t zero small others valued held.
    let p = c.in_ok-_place.ensures.keeps value s t zero small others valued held in
    (p.0, p.1)
