use Rattle.std.proofs.Common.{arith}
use Rattle.rept_trace.proofs.read.synchronisation.Goals as goal

pub returns-in_default : goal.returns-in_default
returns-in_default c = λ payload at format.
    let value = c.take.ensures.value payload 2 at in
    let small = c.take.ensures.small in
    c.support.ensures payload (c.take.ensures.at payload 2 at) format (omega arith) c.args.widths
