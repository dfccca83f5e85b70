use Rattle.std.proofs.Common.{Some, None}
use Rattle.rept_versions.proofs.line.SpanLine.up.Goals as goal

pub returns-in-Done-clause-up : goal.returns-in-Done-clause-up
returns-in-Done-clause-up c = c.loop-stop.invariant.on c.up_step.new.self None c.in-Done.ensures.step

pub returns-in-Stop-clause-up : goal.returns-in-Stop-clause-up
returns-in-Stop-clause-up c = c.loop-stop.invariant.on c.up_step.new.self (Some c.in-Stop.stop) c.in-Stop.ensures.step
