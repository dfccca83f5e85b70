use Rattle.rept_found.specs.Crash.{crash_of}
use Rattle.rept_opening.proofs.EndedLemmas.{no_run_found, run_found}
use Rattle.rept_opening.proofs.running.run_for.Goals as goal

pub returns-in-Ok-clause-found : goal.returns-in-Ok-clause-found
returns-in-Ok-clause-found c = λ notes are.
    run_found (crash_of c.args.dump.now notes) c.args.trace.now c.args.manner c.in-Ok.told c.analysed_run.result (c.in-Ok.ensures.read notes are) c.analysed_run.ensures.by c.analysed_run.ensures.only c.analysed_run.ensures.err

pub returns-in-Err-clause-found : goal.returns-in-Err-clause-found
returns-in-Err-clause-found c = λ notes are. no_run_found (crash_of c.args.dump.now notes) c.args.trace.now c.args.manner c.in-Err.fault (c.in-Err.ensures.read notes are)
