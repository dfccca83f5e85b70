use Rattle.std.proofs.Common.{◌≡◌, ◌&&◌, not, Bool, ap, subst, ◌∙◌}
use Rattle.std.specs.Option.{is_some}
use Rattle.rept_steps.specs.Course.{Course}
use Rattle.rept_moments.specs.Tables.{AreTables}
use Rattle.rept_moments.proofs.MayAct.{untraced_is}
use Rattle.rept_moments.proofs.many.Many.is_untraced_between.Goals as goal

pub returns : goal.returns
returns c =
    let t : AreTables c.args.self.now c.self.inside.begins c.self.inside.numbers c.self.inside.merged.items = subst (λ (D : Course). AreTables D c.self.inside.begins c.self.inside.numbers c.self.inside.merged.items) c.self.view_is c.self.invariant in
    let own : c.is_some-own.result ≡ is_some c.row_between.result = cc in
    c.neither.ensures
    ∙ ap (λ (b : Bool). not b && not c.is_untraced_past-past.result) own
    ∙ ap (λ (b : Bool). not (is_some c.row_between.result) && not b) c.is_untraced_past-past.ensures
    ∙ untraced_is c.args.self.now t.sound c.args.m c.args.w c.row_between.result c.requires c.row_between.ensures
