use Rattle.std.proofs.Common.{◌≡◌, ℕ, true, false, Option, None, sym, ap, subst, ◌∙◌}
use Rattle.rept_steps.specs.Course.{Course}
use Rattle.rept_moments.specs.Naming.Numbered.{row_on}
use Rattle.rept_moments.specs.declared.nexts.Later.{Later}
use Rattle.rept_moments.specs.Edges.{end_at}
use Rattle.rept_order.specs.Crossing.Writers.{not_past}
use Rattle.rept_moments.specs.Nexts.{IsLaterBy}
use Rattle.rept_moments.specs.Tables.{AreTables}
use Rattle.rept_moments.proofs.Places.{below_in, there_row}
use Rattle.rept_moments.proofs.Reaching.{others_later}
use Rattle.rept_moments.proofs.many.Many.later_of_others.Goals as goal

pub end-requires : goal.end-requires
end-requires c = below_in c.self.inside.points c.args.self.now c.args.side.point c.self.view_is c.requires

pub returns : goal.returns
returns c =
    let t : AreTables c.args.self.now c.self.inside.begins c.self.inside.numbers c.self.inside.merged.items = subst (λ (D : Course). AreTables D c.self.inside.begins c.self.inside.numbers c.self.inside.merged.items) c.self.view_is c.self.invariant in
    let end : c.end.result ≡ end_at c.args.self.now c.args.side = c.end.ensures ∙ ap (λ (D : Course). end_at D c.args.side) c.self.view_is in
    subst (λ (l : Later). IsLaterBy c.args.self.now c.args.side None l) (sym c.from.ensures) (others_later c.args.self.now t.sound c.args.side (there_row c.args.self.now (row_on c.args.self.now c.args.side.point) c.requires) c.self.inside.begins t.begins c.after.result
    (λ k b less there. subst (λ (o : Option ℕ). not_past o b.begin ≡ true) end (c.after.ensures.before k b less there))
    (λ k b less there. subst (λ (o : Option ℕ). not_past o b.begin ≡ false) end (c.after.ensures.after k b less there)))
