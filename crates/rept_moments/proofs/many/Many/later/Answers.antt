use Rattle.std.proofs.Common.{◌≡◌, Option, sym, ap, subst, ◌∙◌}
use Rattle.rept_steps.specs.Course.{Course}
use Rattle.rept_moments.specs.Naming.Numbered.{row_on}
use Rattle.rept_moments.specs.declared.nexts.Later.{Later}
use Rattle.rept_moments.specs.declared.side.PointSide.{PointSide}
use Rattle.rept_moments.specs.Begins.{following_at}
use Rattle.rept_moments.specs.Nexts.{end_with, IsLaterBy}
use Rattle.rept_moments.specs.Tables.{AreTables}
use Rattle.rept_moments.proofs.Places.{there_row}
use Rattle.rept_moments.proofs.Reaching.{own_later}
use Rattle.rept_moments.proofs.many.Many.later.Goals as goal

pub returns : goal.returns
returns c =
    let t : AreTables c.args.self.now c.self.inside.begins c.self.inside.numbers c.self.inside.merged.items = subst (λ (D : Course). AreTables D c.self.inside.begins c.self.inside.numbers c.self.inside.merged.items) c.self.view_is c.self.invariant in
    let own : c.following-own.result ≡ following_at c.args.self.now c.args.side = c.following-own.ensures.value ∙ ap (λ (D : Course). following_at D c.args.side) c.self.view_is in
    let is : c.with_end.result ≡ end_with c.args.self.now c.following-own.result c.later_of_others.result = c.with_end.ensures ∙ ap (λ (D : Course). end_with D c.following-own.result c.later_of_others.result) c.self.view_is in
    subst (λ (o : Option PointSide). IsLaterBy c.args.self.now c.args.side o c.with_end.result) own (subst (λ (l : Later). IsLaterBy c.args.self.now c.args.side c.following-own.result l) (sym is) (own_later c.args.self.now t.sound c.args.side (there_row c.args.self.now (row_on c.args.self.now c.args.side.point) c.requires) c.following-own.result (sym own) c.later_of_others.result c.later_of_others.ensures))
