use Rattle.rept_infer.proofs.Handing.{below_pointer}
use Rattle.rept_infer.proofs.first.is_below_stack.Goals as goal

pub returns : goal.returns
returns c = λ less story run h. below_pointer story run c.args.table.now c.args.address c.lo.result c.register.result c.at.result less c.register.ensures c.at.ensures.value c.lo.ensures h
