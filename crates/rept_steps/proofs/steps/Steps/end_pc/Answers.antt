use Rattle.std.proofs.Common.{subst, List, length, ◌<◌, ◌-◌, sym, arith}
use Rattle.rept_isa.specs.declared.row.StepRow.{StepRow}
use Rattle.rept_steps.specs.Linked.{EndBefore}
use Rattle.rept_steps.proofs.LinkedLemmas.{ends}
use Rattle.rept_steps.proofs.steps.Steps.end_pc.Goals as goal

pub returns : goal.returns
returns c =
    let rows = c.self.inside.rows.items in
    let some = subst (λ (xs : List StepRow). 0 < length xs) (sym c.self.view_is) c.requires in
    let count = c.len.ensures in
    subst (λ (xs : List StepRow). EndBefore xs c.index-row.result.now.next) c.self.view_is (ends rows c.index-row.result.now (c.len.result - 1) (omega (arith, count, some)) c.index-row.ensures)
