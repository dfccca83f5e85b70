use Rattle.rept_amo.specs.Atomic.{atomic_rules}
use Rattle.rept_found.specs.Crash.{crash_of, means}
use Rattle.rept_ports.specs.Port.{move}
use Rattle.rept_opening.proofs.ReportLemmas.{asked_over, first_signal}
use Rattle.rept_opening.proofs.answering.open_over.Goals as goal

pub returns-in-Ok-clause-asked : goal.returns-in-Ok-clause-asked
returns-in-Ok-clause-asked g c = λ notes are.
    asked_over (means g.W.Partial.sets g.W.Transfer.moves atomic_rules) c.in-Ok.found (crash_of c.args.dump.now notes) c.args.run.now (c.in-Ok.ensures.found notes are) (g.A.Asking.asks c.args.asking.now) c.status.result.signal
    (move (g.S.Source.port c.args.input.now) (g.S.Source.port c.ask_found.new.input)) (move (g.K.Sink.port c.args.out.now) (g.K.Sink.port c.ask_found.new.out)) c.ask_found.result
    (first_signal c.args.dump.now notes are c.status.result.signal c.status.ensures.signal) c.ask_found.ensures
