use Rattle.std.proofs.Common.{Some, None}
use Rattle.rept_versions.proofs.line.SpanLine.down.Goals as goal

pub returns-in-Done-clause-down : goal.returns-in-Done-clause-down
returns-in-Done-clause-down c = c.loop-stop.invariant.on c.down_step.new.self None c.in-Done.ensures.step

pub returns-in-Stop-clause-down : goal.returns-in-Stop-clause-down
returns-in-Stop-clause-down c = c.loop-stop.invariant.on c.down_step.new.self (Some c.in-Stop.stop) c.in-Stop.ensures.step
