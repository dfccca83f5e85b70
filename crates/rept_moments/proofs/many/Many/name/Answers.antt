use Rattle.rept_moments.proofs.Adding.{name_then, name_else}
use Rattle.rept_moments.proofs.many.Many.name.Goals as goal

pub returns-then-side : goal.returns-then-side
returns-then-side c = name_then c.args.self.now c.args.side c.after.result c.if-side.true c.after.ensures

pub returns-else-side : goal.returns-else-side
returns-else-side c = name_else c.args.self.now c.args.side c.before-number.result c.if-side.false c.before-number.ensures
