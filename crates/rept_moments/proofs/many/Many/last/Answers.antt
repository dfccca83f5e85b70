use Rattle.std.proofs.Common.{Some, None, refl, sym, ◌∙◌}
use Rattle.rept_moments.proofs.Told.{told_is}
use Rattle.rept_moments.proofs.many.Many.last.Goals as goal

pub returns-in-Some : goal.returns-in-Some
returns-in-Some c = told_is c.self.inside.points c.args.self.now c.self.inside.numbers c.args.number (Some c.in-Some.side) _ c.self.view_is c.self.invariant.kept (sym c.in-Some.is ∙ c.at.ensures.is) c.moment.ensures

pub returns-in-None : goal.returns-in-None
returns-in-None c = told_is c.self.inside.points c.args.self.now c.self.inside.numbers c.args.number None _ c.self.view_is c.self.invariant.kept (sym c.in-None.is ∙ c.at.ensures.is) refl
