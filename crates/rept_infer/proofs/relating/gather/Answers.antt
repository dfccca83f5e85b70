use Rattle.std.proofs.Common.{◌≡◌, ℕ, true, List, slice_get, sym, ap, subst, ◌∙◌, arith}
use Rattle.rept_isa.specs.declared.row.StepRow.{StepRow}
use Rattle.rept_known.specs.Both.{both_has}
use Rattle.rept_relate.specs.Numbering.{value_in}
use Rattle.rept_relate.proofs.Counting.{at_row}
use Rattle.rept_infer.proofs.relating.gather.Goals as goal

pub loop-i-init : goal.loop-i-init
loop-i-init c = record {
  len = c.in_ok-classes.ensures.len;
  valued = λ story run e h. c.in_ok-classes.ensures.valued story run h;
}

pub loop-i-preserved : goal.loop-i-preserved
loop-i-preserved c =
    let i = c.loop-i.invariant in
    let at = at_row c.args.rows.now c.loop-i.i c.index-rows-i.result c.loop-i-test.true c.index-rows-i.is in
    record {
      len = let a = c.in_ok-_node.ensures.len in let b = i.len in omega (arith, a, b);
      valued = λ story run e h.
          let has = c.set_after.ensures story run h (ap (λ (xs : List StepRow). slice_get xs c.loop-i.i) e ∙ at) in
          let node = c.in_ok-_node.ensures.node ∙ i.len in
          c.in_ok-_node.ensures.keeps (value_in story.rows run) (i.valued story run e h) (subst (λ (k : ℕ). both_has c.set_after.result (value_in story.rows run k) ≡ true) (sym node) has);
    }
