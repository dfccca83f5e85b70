use Rattle.rept_narrow.proofs.Touching.{lies}
use Rattle.rept_narrow.proofs.touched.range_of.Goals as goal

pub returns : goal.returns
returns c = λ story run h le. lies story run c.args.table.now c.args.point c.register.result c.args.number c.at.result c.range.result c.register.ensures c.at.ensures.value c.range.ensures h le
