use Rattle.std.proofs.Common.{List, subst, sym, arith}
use Rattle.rept_isa.specs.declared.row.StepRow.{StepRow}
use Rattle.rept_steps.specs.Linked.{AreLinked, EndBefore}
use Rattle.rept_steps.proofs.LinkedLemmas.{one_more, ends_after}
use Rattle.rept_steps.proofs.steps.Steps.push.Goals as goal

pub invariant_of-self-2 : goal.invariant_of-self-2
invariant_of-self-2 c =
    let rows = c.self.inside.rows.items in
    let end = subst (λ (xs : List StepRow). EndBefore xs c.args.row.at) (sym c.self.view_is) c.requires in
    let items = c.in_default.ensures.items in
    let linked = one_more rows c.args.row c.self.invariant.0 end in
    let size = c.len.ensures in
    let len = c.in_default.ensures.len in
    (subst (λ (xs : List StepRow). AreLinked xs) (sym items) linked, omega (arith, size, len))

pub returns-clause-ends : goal.returns-clause-ends
returns-clause-ends c =
    subst (λ (xs : List StepRow). EndBefore xs c.args.row.next) (sym c.in_default.ensures.items) (ends_after c.self.inside.rows.items c.args.row)
