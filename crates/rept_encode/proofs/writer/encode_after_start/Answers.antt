use Rattle.std.proofs.Common.{◌≡◌, List, refl, sym, subst}
use Rattle.rept_isa.specs.declared.row.StepRow.{StepRow}
use Rattle.rept_encode.specs.Walkable.{IsFirstJumpEnd}
use Rattle.rept_encode.proofs.JumpEnds.{one_first}
use Rattle.rept_encode.proofs.writer.encode_after_start.Goals as goal

pub returns-in-Some-clause-jump_ends : goal.returns-in-Some-clause-jump_ends
returns-in-Some-clause-jump_ends c = λ i x.
    let y : IsFirstJumpEnd c.rows-rows.result.now i = subst (λ (rows : List StepRow). IsFirstJumpEnd rows i) (sym c.rows-rows.ensures.list) x in
    let same : c.in-Some.i ≡ i = one_first c.rows-rows.result.now c.in-Some.i i c.in-Some.ensures.some y in
    rw same refl

pub returns-in-Ok-clause-jump_ends : goal.returns-in-Ok-clause-jump_ends
returns-in-Ok-clause-jump_ends c = λ i x.
    let y : IsFirstJumpEnd c.rows-rows.result.now i = subst (λ (rows : List StepRow). IsFirstJumpEnd rows i) (sym c.rows-rows.ensures.list) x in
    absurd (c.in-None.ensures.none i y.there)

pub returns-in-Err-clause-jump_ends : goal.returns-in-Err-clause-jump_ends
returns-in-Err-clause-jump_ends c = λ i x.
    let y : IsFirstJumpEnd c.rows-rows.result.now i = subst (λ (rows : List StepRow). IsFirstJumpEnd rows i) (sym c.rows-rows.ensures.list) x in
    absurd (c.in-None.ensures.none i y.there)
