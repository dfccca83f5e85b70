use Rattle.rept_machine.proofs.execute.execute.Goals as goal

pub returns-in-Ecall-clause-effect : goal.returns-in-Ecall-clause-effect
returns-in-Ecall-clause-effect c = λ image_end. rw c.in-Ecall.is (c.answer.ensures.call c.args.memory.now image_end)

pub returns-in-Counter-clause-effect : goal.returns-in-Counter-clause-effect
returns-in-Counter-clause-effect c = λ image_end.
    let done = c.put-in-Counter.ensures.done c.args.memory.now in
    rw c.in-Counter.is (record { lost = done.result.lost; others = done.result.others; memory = done.memory; onward = done.onward })

pub returns-in-Counter-clause-picks : goal.returns-in-Counter-clause-picks
returns-in-Counter-clause-picks c =
    let done = c.put-in-Counter.ensures.done c.args.memory.now in
    rw c.in-Counter.is (λ named. done.result.written named)
