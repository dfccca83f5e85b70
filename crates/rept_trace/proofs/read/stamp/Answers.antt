use Rattle.std.proofs.Common.{◌+◌}
use Rattle.rept_trace.proofs.read.stamp.Goals as goal

pub returns-clause-fields : goal.returns-clause-fields
returns-clause-fields c = λ payload i at. record {
  clock = c.take-time.ensures.value payload i at;
  process = c.take-context.ensures.value payload (i + c.args.widths.time_width) (c.take-time.ensures.at payload i at);
}
