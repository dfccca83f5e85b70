use Rattle.std.proofs.Common.{Some, refl, sym, ◌∙◌}
use Rattle.rept_moments.proofs.Places.{below_in}
use Rattle.rept_moments.proofs.MayAct.{leads_placed}
use Rattle.rept_moments.proofs.Told.{untraced_told, untraced_told_end}
use Rattle.rept_moments.proofs.many.Many.is_untraced_past.Goals as goal

pub is_untraced_past-requires : goal.is_untraced_past-requires
is_untraced_past-requires c = below_in c.self.inside.points c.self.inside.points c.in-Some.side.point refl (leads_placed c.self.inside.points c.self.invariant.sound c.self.inside.numbers c.self.invariant.kept c.args.m c.in-Some.side (sym c.at.ensures.is ∙ c.in-Some.is))

pub returns-in-Some : goal.returns-in-Some
returns-in-Some c = untraced_told c.self.inside.points c.args.self.now c.self.inside.numbers c.args.m (Some c.in-Some.side) c.is_untraced_past.result c.self.view_is c.self.invariant.kept (sym c.in-Some.is ∙ c.at.ensures.is) c.is_untraced_past.ensures

pub returns-in-None : goal.returns-in-None
returns-in-None c = untraced_told_end c.self.inside.points c.args.self.now c.self.inside.numbers c.args.m c.self.view_is c.self.invariant.kept (sym c.in-None.is ∙ c.at.ensures.is)
