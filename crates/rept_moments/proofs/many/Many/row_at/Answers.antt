use Rattle.std.proofs.Common.{◌≡◌, Bool, true, false, not, sym, subst, ◌∙◌}
use Rattle.std.proofs.lemmas.Bool.{false≢true}
use Rattle.rept_steps.specs.Course.{Course}
use Rattle.rept_moments.specs.Tables.{AreTables}
use Rattle.rept_moments.proofs.MayAct.{row_here, no_row_after, no_row_end}
use Rattle.rept_moments.proofs.many.Many.row_at.Goals as goal

is_off : (b : Bool) → not b ≡ true → b ≡ false
is_off true e = absurd (false≢true e)
is_off false e = λ i. false

is_on : (b : Bool) → not b ≡ false → b ≡ true
is_on true e = λ i. true
is_on false e = absurd (false≢true (sym e))

pub returns-in-Some : goal.returns-in-Some
returns-in-Some c =
    let t : AreTables c.args.self.now c.self.inside.begins c.self.inside.numbers c.self.inside.merged.items = subst (λ (D : Course). AreTables D c.self.inside.begins c.self.inside.numbers c.self.inside.merged.items) c.self.view_is c.self.invariant in
    row_here c.args.self.now t.sound c.self.inside.numbers t.kept c.args.number c.in-Some.side (sym c.at.ensures.is ∙ c.in-Some.is) (is_off c.in-Some.side.is_after c.if-not-side.true)

pub returns-in_default : goal.returns-in_default
returns-in_default c =
    let t : AreTables c.args.self.now c.self.inside.begins c.self.inside.numbers c.self.inside.merged.items = subst (λ (D : Course). AreTables D c.self.inside.begins c.self.inside.numbers c.self.inside.merged.items) c.self.view_is c.self.invariant in
    no_row_after c.args.self.now t.sound c.self.inside.numbers t.kept c.args.number c.in-Some.side (sym c.at.ensures.is ∙ c.in-Some.is) (is_on c.in-Some.side.is_after c.if-not-side.false)

pub returns-in_default-2 : goal.returns-in_default-2
returns-in_default-2 c =
    let t : AreTables c.args.self.now c.self.inside.begins c.self.inside.numbers c.self.inside.merged.items = subst (λ (D : Course). AreTables D c.self.inside.begins c.self.inside.numbers c.self.inside.merged.items) c.self.view_is c.self.invariant in
    no_row_end c.args.self.now t.sound c.self.inside.numbers t.kept c.args.number (sym c.at.ensures.is ∙ c.in_default.is)
