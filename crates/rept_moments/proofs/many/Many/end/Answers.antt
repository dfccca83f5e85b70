use Rattle.rept_moments.proofs.Told.{end_is}
use Rattle.rept_moments.proofs.many.Many.end.Goals as goal

pub returns : goal.returns
returns c = end_is c.self.inside.points c.args.self.now c.self.inside.numbers c.len.result c.self.view_is c.self.invariant.kept c.len.ensures
