use Rattle.rept_amo.specs.Atomic.{atomic_rules}
use Rattle.rept_found.specs.Crash.{crash_of, means}
use Rattle.rept_infer.specs.Path.{path_reader, told_in}
use Rattle.rept_found.specs.Inferred.Narrowed.{beyond_of}
use Rattle.rept_ports.specs.Port.{move}
use Rattle.rept_opening.proofs.BeyondLemmas.{asked_inferred}
use Rattle.rept_opening.proofs.ReportLemmas.{first_signal}
use Rattle.rept_opening.proofs.beyond.ask_beyond.Goals as goal

pub returns : goal.returns
returns g c = λ notes are.
    asked_inferred (means g.W.Partial.sets g.W.Transfer.moves atomic_rules) c.args.told.found.now (crash_of c.args.path.dump.now notes) c.args.path.run.now c.args.path.steps.now
    (beyond_of (told_in (path_reader g.P.KnownPath.set g.P.KnownPath.byte g.Q.PathPremises.premises) c.args.told.inferred) c.args.told.taken) (c.requires.found notes are) c.requires.one (c.requires.holds notes are) c.requires.taken (g.A.Asking.asks c.args.asking.now) c.status.result.signal
    (move (g.S.Source.port c.args.input.now) (g.S.Source.port c.ask_narrowed.new.input)) (move (g.K.Sink.port c.args.out.now) (g.K.Sink.port c.ask_narrowed.new.out)) c.ask_narrowed.result
    (first_signal c.args.path.dump.now notes are c.status.result.signal c.status.ensures.signal) c.ask_narrowed.ensures
