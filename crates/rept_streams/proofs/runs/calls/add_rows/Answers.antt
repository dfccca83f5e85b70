use Rattle.std.proofs.Common.{◌∙◌, ◌++◌, ◌∷◌, [], List, take, sym, subst, ap, append_assoc}
use Rattle.std.proofs.lemmas.List.{append-nil, take_more}
use Rattle.rept_isa.specs.declared.row.StepRow.{StepRow}
use Rattle.rept_steps.specs.Linked.{EndBefore}
use Rattle.rept_streams.proofs.RunsLemmas.Adding.{linked_at}
use Rattle.rept_streams.proofs.runs.calls.add_rows.Goals as goal

pub loop-row-init : goal.loop-row-init
loop-row-init c = sym (append-nil c.args.steps.now)

pub add_row-requires : goal.add_row-requires
add_row-requires c =
    let at = linked_at c.args.steps.now c.args.rows.now c.loop-row.row-index c.row-item.result c.loop-row-test.true c.row-item.is c.requires in
    subst (λ (xs : List StepRow). EndBefore xs (c.row-item.result).at) (sym c.loop-row.invariant) at

pub loop-row-preserved : goal.loop-row-preserved
loop-row-preserved c =
    c.in_ok-add_row.ensures.ok ∙ ap (λ (xs : List StepRow). xs ++ c.row-item.result ∷ []) c.loop-row.invariant ∙ append_assoc c.args.steps.now (take c.loop-row.row-index c.args.rows.now) (c.row-item.result ∷ []) ∙ ap (λ (xs : List StepRow). c.args.steps.now ++ xs) (sym (take_more c.args.rows.now c.loop-row.row-index c.row-item.result c.loop-row-test.true ∙ ap (λ (x : StepRow). take c.loop-row.row-index c.args.rows.now ++ x ∷ []) (sym c.row-item.is)))
