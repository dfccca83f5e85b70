use Rattle.std.proofs.Common.{Some, None, sym, ◌∙◌}
use Rattle.rept_moments.proofs.Told.{number_is}
use Rattle.rept_moments.proofs.many.Many.number.Goals as goal

pub returns-in-Some : goal.returns-in-Some
returns-in-Some c = number_is c.self.inside.points c.args.self.now c.self.inside.numbers c.args.side (Some c.in-Some.number) c.self.view_is c.self.invariant.kept (sym c.in-Some.is ∙ c.find.ensures)

pub returns-in-None : goal.returns-in-None
returns-in-None c = number_is c.self.inside.points c.args.self.now c.self.inside.numbers c.args.side None c.self.view_is c.self.invariant.kept (sym c.in-None.is ∙ c.find.ensures)
