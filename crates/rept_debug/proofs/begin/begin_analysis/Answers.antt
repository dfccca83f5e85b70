use Rattle.std.proofs.Common.{inl}
use Rattle.rept_found.specs.Crash.{crash_of}
use Rattle.rept_opening.specs.Opened.{crash_trace}
use Rattle.rept_debug.proofs.Sought.{analysis_begun, no_analysis}
use Rattle.rept_debug.proofs.begin.begin_analysis.Goals as goal

pub analysed_run-requires-clause-told : goal.analysed_run-requires-clause-told
analysed_run-requires-clause-told c =
    let noted = c.requires.noted in
    (crash_of c.args.dump.now noted.notes, (c.in-Ok.ensures.begun noted.notes noted.are).run)

pub returns-in-Err-clause-begun : goal.returns-in-Err-clause-begun
returns-in-Err-clause-begun c = λ notes are. no_analysis (crash_trace (crash_of c.args.dump.now notes) c.args.trace.now c.args.manner) c.in-Err.fault (c.in-Err.ensures.begun notes are).refused

pub returns-in-Ok-analysed_run-clause-begun : goal.returns-in-Ok-analysed_run-clause-begun
returns-in-Ok-analysed_run-clause-begun c = λ notes are.
    analysis_begun (crash_trace (crash_of c.args.dump.now notes) c.args.trace.now c.args.manner) c.in-Ok.told c.in-Ok-analysed_run.run' (c.in-Ok.ensures.begun notes are) c.in-Ok-analysed_run.ensures.by

pub returns-in-Err-analysed_run-clause-begun : goal.returns-in-Err-analysed_run-clause-begun
returns-in-Err-analysed_run-clause-begun c = λ notes are. no_analysis (crash_trace (crash_of c.args.dump.now notes) c.args.trace.now c.args.manner) c.in-Err-analysed_run.fault (inl c.in-Err-analysed_run.ensures.err)

pub returns-in-Ok-analysed_run-clause-fits : goal.returns-in-Ok-analysed_run-clause-fits
returns-in-Ok-analysed_run-clause-fits c = c.in-Ok-analysed_run.ensures.fits c.args.dump.now c.in-Ok.ensures.fits
