use Rattle.rept_machine.proofs.execute.exchange.Goals as goal

pub returns-clause-done : goal.returns-clause-done
returns-clause-done c =
    let stored = c.in_ok-store.ensures.ok in
    let done = c.put.ensures.done c.args.memory.now in record {
      result = record { written = done.result.written; lost = done.result.lost; others = done.result.others };
      memory = record { written = stored.here; others = stored.others };
      onward = done.onward;
    }
