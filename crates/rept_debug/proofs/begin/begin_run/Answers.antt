use Rattle.rept_found.specs.Crash.{crash_of}
use Rattle.rept_debug.proofs.Sought.{begun_first, begun_here, fails_here, long_at, long_first, never_begun, refused_first, refused_long, too_long_later}
use Rattle.rept_debug.proofs.begin.begin_run.Goals as goal

pub returns-in-Ok-clause-begun : goal.returns-in-Ok-clause-begun
returns-in-Ok-clause-begun c = λ notes are. begun_here (crash_of c.args.dump.now notes) c.args.trace.now c.args.from c.in-Ok.run' (c.in-Ok.ensures.read notes are).run

pub returns-then-from-gt0-clause-begun : goal.returns-then-from-gt0-clause-begun
returns-then-from-gt0-clause-begun c = λ notes are.
    never_begun (crash_of c.args.dump.now notes) c.args.trace.now c.args.from c.in-Err.fault
    (too_long_later (crash_of c.args.dump.now notes) c.args.trace.now c.args.from c.in-Err.fault c.if-from-gt0.true (c.in-Err.ensures.read notes are).refusal)

pub later_run-requires-clause-long : goal.later_run-requires-clause-long
later_run-requires-clause-long c = λ notes are.
    long_first (crash_of c.args.dump.now notes) c.args.trace.now c.args.from c.if-from-gt0.false
    (long_at (crash_of c.args.dump.now notes) c.args.trace.now c.args.from c.in-Err.fault (c.is_too_long.ensures.yes c.if-is_too_long.true) (c.in-Err.ensures.read notes are))

pub later_run-requires-clause-refused : goal.later_run-requires-clause-refused
later_run-requires-clause-refused c = λ notes are.
    refused_first (crash_of c.args.dump.now notes) c.args.trace.now c.args.from c.in-Err.fault c.if-from-gt0.false
    (refused_long (crash_of c.args.dump.now notes) c.args.trace.now c.args.from c.in-Err.fault (c.is_too_long.ensures.yes c.if-is_too_long.true) (c.in-Err.ensures.read notes are))

pub returns-then-is_too_long-clause-begun : goal.returns-then-is_too_long-clause-begun
returns-then-is_too_long-clause-begun c = λ notes are. begun_first (crash_of c.args.dump.now notes) c.args.trace.now c.args.from c.later_run.result c.if-from-gt0.false (c.later_run.ensures.begun notes are)

pub returns-clause-begun : goal.returns-clause-begun
returns-clause-begun c = λ notes are.
    never_begun (crash_of c.args.dump.now notes) c.args.trace.now c.args.from c.in-Err.fault
    (fails_here (crash_of c.args.dump.now notes) c.args.trace.now c.args.from c.in-Err.fault (c.is_too_long.ensures.no c.if-is_too_long.false) (c.in-Err.ensures.read notes are).refusal)
