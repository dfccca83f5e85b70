use Rattle.std.proofs.Common.{◌≡◌, sym, subst, ◌∙◌}
use Rattle.std.proofs.lemmas.Bool.{false≢true}
use Rattle.rept_steps.specs.Course.{Course}
use Rattle.rept_moments.specs.Tables.{AreTables}
use Rattle.rept_moments.specs.Numbers.{numbers_of}
use Rattle.rept_moments.specs.Ordering.{moment_at_side}
use Rattle.rept_moments.proofs.MayAct.{leads_placed}
use Rattle.rept_moments.proofs.Together.{end_apart, last_told, together_from}
use Rattle.rept_moments.proofs.many.Many.are_together.Goals as goal

pub is_together-requires : goal.is_together-requires
is_together-requires c =
    let t : AreTables c.args.self.now c.self.inside.begins c.self.inside.numbers c.self.inside.merged.items = subst (λ (D : Course). AreTables D c.self.inside.begins c.self.inside.numbers c.self.inside.merged.items) c.self.view_is c.self.invariant in
    leads_placed c.args.self.now t.sound c.self.inside.numbers t.kept c.args.m c.in-Some.side (sym c.at.ensures.is ∙ c.in-Some.is)

pub returns-in-Some : goal.returns-in-Some
returns-in-Some c =
    let last : (numbers_of c.args.self.now).last c.args.m ≡ moment_at_side c.args.self.now c.in-Some.side = last_told c.self.inside.points c.args.self.now c.self.inside.numbers c.args.m c.in-Some.side c.self.view_is c.self.invariant.kept (sym c.in-Some.is ∙ c.at.ensures.is) in
    (λ yes. record { one = c.in-Some.side; last = last; together = c.is_together.ensures.0 yes }, λ its. c.is_together.ensures.1 (together_from c.args.self.now c.args.m c.args.k c.in-Some.side last its))

pub returns-in-None : goal.returns-in-None
returns-in-None c = (λ yes. absurd (false≢true yes), λ its. absurd (end_apart c.self.inside.points c.args.self.now c.self.inside.numbers c.args.m its.one c.self.view_is c.self.invariant.kept (sym c.in-None.is ∙ c.at.ensures.is) its.last))
