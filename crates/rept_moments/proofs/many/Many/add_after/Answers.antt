use Rattle.std.proofs.Common.{◌≡◌, Bool, true, false, not, Option, sym, ap, subst, ◌∙◌}
use Rattle.std.proofs.lemmas.Bool.{false≢true}
use Rattle.std.proofs.lemmas.Result.{on_ok_weaker}
use Rattle.rept_steps.specs.Course.{Course}
use Rattle.rept_moments.specs.Naming.Numbered.{row_on}
use Rattle.rept_moments.specs.declared.side.PointSide.{PointSide}
use Rattle.rept_moments.specs.Begins.{following_at}
use Rattle.rept_moments.specs.Nexts.{offers_at, AddsOthers, Member}
use Rattle.rept_moments.specs.Tables.{AreTables}
use Rattle.rept_moments.proofs.Places.{there_row}
use Rattle.rept_moments.proofs.Reaching.{nexts_found, nexts_end}
use Rattle.rept_moments.proofs.many.Many.add_after.Goals as goal

is_off : (b : Bool) → not b ≡ true → b ≡ false
is_off true e = absurd (false≢true e)
is_off false e = λ i. false

is_on : (b : Bool) → not b ≡ false → b ≡ true
is_on true e = λ i. true
is_on false e = absurd (false≢true (sym e))

pub returns-then-not-later : goal.returns-then-not-later
returns-then-not-later c =
    let t : AreTables c.args.self.now c.self.inside.begins c.self.inside.numbers c.self.inside.merged.items = subst (λ (D : Course). AreTables D c.self.inside.begins c.self.inside.numbers c.self.inside.merged.items) c.self.view_is c.self.invariant in
    on_ok_weaker c.add_other.result
    (λ its. nexts_end c.args.self.now t.sound c.args.side (there_row c.args.self.now (row_on c.args.self.now c.args.side.point) c.requires) c.later-later.result c.later-later.ensures c.args.own c.args.list.now.items c.add_other.new.list.items c.end.result (is_off c.later-later.result.some c.if-not-later.true) c.end.ensures its)
    c.add_other.ensures

pub returns : goal.returns
returns c =
    let t : AreTables c.args.self.now c.self.inside.begins c.self.inside.numbers c.self.inside.merged.items = subst (λ (D : Course). AreTables D c.self.inside.begins c.self.inside.numbers c.self.inside.merged.items) c.self.view_is c.self.invariant in
    let own : c.following.result ≡ following_at c.args.self.now c.args.side = c.following.ensures.value ∙ ap (λ (D : Course). following_at D c.args.side) c.self.view_is in
    nexts_found c.args.self.now t.sound c.args.side (there_row c.args.self.now (row_on c.args.self.now c.args.side.point) c.requires) c.later-later.result c.later-later.ensures c.args.own c.args.list.now.items c.add_first.new.list.items c.add_begun.new.list.items (is_on c.later-later.result.some c.if-not-later.false)
    (subst (λ (o : Option PointSide). AddsOthers c.args.own (Member (offers_at c.args.self.now c.later-later.result.last o)) c.args.list.now.items c.add_first.new.list.items) own c.in_ok-add_first.ensures)
    c.in_ok-add_begun.ensures
