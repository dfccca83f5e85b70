use Rattle.std.proofs.Common.{◌&&◌, not, Bool, nat_eq, ap, subst, ◌∙◌}
use Rattle.rept_steps.specs.Course.{Course}
use Rattle.rept_order.specs.Moments.{stores}
use Rattle.rept_moments.specs.Naming.Numbered.{row_on}
use Rattle.rept_moments.specs.Numbers.{numbered}
use Rattle.rept_moments.specs.Tables.{AreTables}
use Rattle.rept_moments.proofs.MayAct.{own_may_act, rest_may_act}
use Rattle.rept_moments.proofs.many.Many.may_act.Goals as goal

pub returns-in-Some : goal.returns-in-Some
returns-in-Some c =
    let t : AreTables c.args.self.now c.self.inside.begins c.self.inside.numbers c.self.inside.merged.items = subst (λ (D : Course). AreTables D c.self.inside.begins c.self.inside.numbers c.self.inside.merged.items) c.self.view_is c.self.invariant in
    c.both.ensures
    ∙ ap (λ (b : Bool). b && nat_eq c.in-Some.own c.args.row) (c.stores-stores.ensures ∙ ap (λ (D : Course). stores D (row_on D c.args.row)) c.self.view_is)
    ∙ own_may_act c.args.self.now t.sound c.args.m c.args.w c.in-Some.own c.in-Some.ensures c.args.row

pub returns-in-None : goal.returns-in-None
returns-in-None c =
    let t : AreTables c.args.self.now c.self.inside.begins c.self.inside.numbers c.self.inside.merged.items = subst (λ (D : Course). AreTables D c.self.inside.begins c.self.inside.numbers c.self.inside.merged.items) c.self.view_is c.self.invariant in
    c.both-in-None.ensures
    ∙ ap (λ (b : Bool). b && c.neither.result) (c.stores-stores.ensures ∙ ap (λ (D : Course). stores D (row_on D c.args.row)) c.self.view_is)
    ∙ ap (λ (b : Bool). stores c.args.self.now (row_on c.args.self.now c.args.row) && b) (c.neither.ensures ∙ ap (λ (b : Bool). not b && not c.is_ahead-ahead.result) c.is_past-past.ensures ∙ ap (λ (b : Bool). not ((numbered c.args.self.now).past c.args.row c.args.m) && not b) c.is_ahead-ahead.ensures)
    ∙ rest_may_act c.args.self.now t.sound c.args.m c.args.w c.args.row c.requires.next c.in-None.ensures
