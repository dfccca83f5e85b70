use Rattle.std.proofs.Common.{Some, None, refl, sym, ◌∙◌}
use Rattle.rept_moments.proofs.MayAct.{leads_placed}
use Rattle.rept_moments.proofs.Told.{ahead_told}
use Rattle.rept_moments.proofs.many.Many.is_ahead.Goals as goal

pub is_not_later-requires-clause-one : goal.is_not_later-requires-clause-one
is_not_later-requires-clause-one c = leads_placed c.self.inside.points c.self.invariant.sound c.self.inside.numbers c.self.invariant.kept c.args.m c.in-Some.side (sym c.at.ensures.is ∙ c.in-Some.is)

pub returns-in-Some : goal.returns-in-Some
returns-in-Some c = ahead_told c.self.inside.points c.args.self.now c.self.inside.numbers c.args.m c.args.row (Some c.in-Some.side) c.is_not_later.result c.self.view_is c.self.invariant.kept (sym c.in-Some.is ∙ c.at.ensures.is) c.is_not_later.ensures

pub returns-in-None : goal.returns-in-None
returns-in-None c = ahead_told c.self.inside.points c.args.self.now c.self.inside.numbers c.args.m c.args.row None _ c.self.view_is c.self.invariant.kept (sym c.in-None.is ∙ c.at.ensures.is) refl
