use Rattle.rept_isa.specs.declared.instr.LoadOp.TheVariants.{Lw}
use Rattle.rept_isa.specs.Numbers.{beside}
use Rattle.rept_relate.proofs.Remembering.{held_new}
use Rattle.rept_relate.proofs.storing.store.Goals as goal

pub returns-in_err-place-clause-below : goal.returns-in_err-place-clause-below
returns-in_err-place-clause-below c = λ limit below less. c.in_err-place.ensures.below limit below

pub returns-then-width-eq4-clause-below : goal.returns-then-width-eq4-clause-below
returns-then-width-eq4-clause-below c = λ limit below less. c.keep.ensures.below limit (c.in_ok-place.ensures.below limit below) less

pub returns-then-width-eq4-clause-keeps : goal.returns-then-width-eq4-clause-keeps
returns-then-width-eq4-clause-keeps c = λ value s t zero small others word valued held.
    let p = c.in_ok-place.ensures.keeps value s t zero small others valued held in
    (p.0, c.keep.ensures.held value t p.1 (held_new value t c.in_ok-place.place Lw (beside (value c.args.base) c.args.offset) c.args.source p.2 (word c.if-width-eq4.true)))

pub returns-else-width-eq4-clause-below : goal.returns-else-width-eq4-clause-below
returns-else-width-eq4-clause-below c = λ limit below less. c.in_ok-place.ensures.below limit below

pub returns-else-width-eq4-clause-keeps : goal.returns-else-width-eq4-clause-keeps
returns-else-width-eq4-clause-keeps c = λ value s t zero small others word valued held.
    let p = c.in_ok-place.ensures.keeps value s t zero small others valued held in
    (p.0, p.1)
