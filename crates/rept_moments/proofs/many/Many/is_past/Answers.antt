use Rattle.std.proofs.Common.{Some, None, refl, sym, ◌∙◌}
use Rattle.rept_moments.proofs.MayAct.{leads_placed}
use Rattle.rept_moments.proofs.Told.{past_told}
use Rattle.rept_moments.proofs.many.Many.is_past.Goals as goal

pub is_not_later-requires-clause-other : goal.is_not_later-requires-clause-other
is_not_later-requires-clause-other c = leads_placed c.self.inside.points c.self.invariant.sound c.self.inside.numbers c.self.invariant.kept c.args.m c.in-Some.side (sym c.at.ensures.is ∙ c.in-Some.is)

pub returns-in-Some : goal.returns-in-Some
returns-in-Some c = past_told c.self.inside.points c.args.self.now c.self.inside.numbers c.args.m c.args.row (Some c.in-Some.side) c.stores.result c.is_not_later.result c.self.view_is c.self.invariant.kept (sym c.in-Some.is ∙ c.at.ensures.is) c.stores.ensures c.if-not-stores.false c.is_not_later.ensures

pub returns-in-None : goal.returns-in-None
returns-in-None c = past_told c.self.inside.points c.args.self.now c.self.inside.numbers c.args.m c.args.row None c.stores.result _ c.self.view_is c.self.invariant.kept (sym c.in-None.is ∙ c.at.ensures.is) c.stores.ensures c.if-not-stores.false refl
