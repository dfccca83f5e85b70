use Rattle.std.proofs.Common.{ℕ, Option, sym, subst, ◌∙◌}
use Rattle.std.proofs.lemmas.Result.{on_ok_weaker}
use Rattle.rept_steps.specs.Course.{Course}
use Rattle.rept_moments.specs.declared.side.PointSide.{PointSide}
use Rattle.rept_moments.specs.Tables.{AreTables}
use Rattle.rept_moments.specs.Nexts.{numbers_next, AddsOthers, Member}
use Rattle.rept_moments.proofs.MayAct.{leads_placed}
use Rattle.rept_moments.proofs.Neighbours.{nexts_added}
use Rattle.rept_moments.proofs.many.Many.add_nexts.Goals as goal

pub add_side-requires : goal.add_side-requires
add_side-requires c =
    let t : AreTables c.args.self.now c.self.inside.begins c.self.inside.numbers c.self.inside.merged.items = subst (λ (D : Course). AreTables D c.self.inside.begins c.self.inside.numbers c.self.inside.merged.items) c.self.view_is c.self.invariant in
    leads_placed c.args.self.now t.sound c.self.inside.numbers t.kept c.args.number c.in-Some.side (sym c.at.ensures.is ∙ c.in-Some.is)

pub returns-in-Some : goal.returns-in-Some
returns-in-Some c =
    let t : AreTables c.args.self.now c.self.inside.begins c.self.inside.numbers c.self.inside.merged.items = subst (λ (D : Course). AreTables D c.self.inside.begins c.self.inside.numbers c.self.inside.merged.items) c.self.view_is c.self.invariant in
    on_ok_weaker c.add_side.result
    (λ its. nexts_added c.args.self.now t.sound c.self.inside.numbers t.kept c.args.number c.requires c.args.list.now.items c.add_side.new.list.items
    (subst (λ (o : Option PointSide). AddsOthers c.args.number (Member (numbers_next c.args.self.now o)) c.args.list.now.items c.add_side.new.list.items) (sym c.in-Some.is ∙ c.at.ensures.is) its))
    c.add_side.ensures

pub returns-in-None : goal.returns-in-None
returns-in-None c =
    let t : AreTables c.args.self.now c.self.inside.begins c.self.inside.numbers c.self.inside.merged.items = subst (λ (D : Course). AreTables D c.self.inside.begins c.self.inside.numbers c.self.inside.merged.items) c.self.view_is c.self.invariant in
    on_ok_weaker c.add_ends.result
    (λ its. nexts_added c.args.self.now t.sound c.self.inside.numbers t.kept c.args.number c.requires c.args.list.now.items c.add_ends.new.list.items
    (subst (λ (o : Option PointSide). AddsOthers c.args.number (Member (numbers_next c.args.self.now o)) c.args.list.now.items c.add_ends.new.list.items) (sym c.in-None.is ∙ c.at.ensures.is) its))
    c.add_ends.ensures
