use Rattle.std.proofs.Common.{◌∙◌, ◌++◌, ◌∷◌, [], List, take, sym, subst, ap, append_assoc}
use Rattle.std.proofs.lemmas.List.{append-nil, take_more}
use Rattle.rept_isa.specs.declared.row.StepRow.{StepRow}
use Rattle.rept_steps.specs.Linked.{EndBefore}
use Rattle.rept_streams.proofs.ThreadsLemmas.Bridging.{row_of}
use Rattle.rept_streams.proofs.threads.joins.add_rows.Goals as goal

pub loop-row-init : goal.loop-row-init
loop-row-init c = (sym (append-nil c.args.steps.now), (λ a b x y. (a, x, y)))

pub add_row-requires : goal.add_row-requires
add_row-requires c =
    let q = c.requires in
    let i = c.loop-row.invariant.1 q.0 q.1 q.2 q.3 in
    let r = row_of c.args.rows.now c.loop-row.row-index c.row-item.result i.0 q.1 c.loop-row-test.true c.row-item.is i.2 in
    subst (EndBefore c.loop-row.steps) (sym r.0) i.1

pub loop-row-preserved : goal.loop-row-preserved
loop-row-preserved c = (
  c.in_ok-add_row.ensures.ok ∙ ap (λ (xs : List StepRow). xs ++ c.row-item.result ∷ []) c.loop-row.invariant.0 ∙ append_assoc c.args.steps.now (take c.loop-row.row-index c.args.rows.now) (c.row-item.result ∷ []) ∙ ap (λ (xs : List StepRow). c.args.steps.now ++ xs) (sym (take_more c.args.rows.now c.loop-row.row-index c.row-item.result c.loop-row-test.true ∙ ap (λ (x : StepRow). take c.loop-row.row-index c.args.rows.now ++ x ∷ []) (sym c.row-item.is))),
  (λ a b x y.
      let i = c.loop-row.invariant.1 a b x y in
      let r = row_of c.args.rows.now c.loop-row.row-index c.row-item.result i.0 b c.loop-row-test.true c.row-item.is i.2 in
      ((c.row-item.result).next, c.in_ok-add_row.ensures.ends, r.1)),
)
