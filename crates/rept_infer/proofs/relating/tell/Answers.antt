use Rattle.std.proofs.Common.{List, slice_get, ap, ◌∙◌}
use Rattle.rept_isa.specs.declared.row.StepRow.{StepRow}
use Rattle.rept_relate.proofs.ClassesLemmas.Changing.{same_then}
use Rattle.rept_relate.specs.Numbering.{value_in}
use Rattle.rept_relate.proofs.Summing.{any_err}
use Rattle.rept_relate.proofs.Counting.{at_row}
use Rattle.rept_infer.proofs.relating.tell.Goals as goal

pub returns-in_err-tell_row-clause-refuses : goal.returns-in_err-tell_row-clause-refuses
returns-in_err-tell_row-clause-refuses c =
    let i = c.loop-i.invariant in
    let at = at_row c.args.rows.now c.loop-i.i c.index-rows-i.result c.loop-i-test.true c.index-rows-i.is in
    any_err c.from_residual-in_err-tell_row.result (λ story run e h valued. c.in_err-tell_row.ensures.refuses story run (ap (λ (xs : List StepRow). slice_get xs c.loop-i.i) e ∙ at) (i.keeps story run e h valued) (i.same.onward (value_in story.rows run) valued))

pub loop-i-preserved : goal.loop-i-preserved
loop-i-preserved c =
    let i = c.loop-i.invariant in
    let at = at_row c.args.rows.now c.loop-i.i c.index-rows-i.result c.loop-i-test.true c.index-rows-i.is in
    record {
      len = c.in_ok-tell_row.ensures.len ∙ i.len;
      same = same_then c.args.classes.now c.loop-i.classes c.tell_row.new.classes i.same c.in_ok-tell_row.ensures.same;
      points = c.in_ok-tell_row.ensures.points ∙ i.points;
      narrower = λ story run h. i.narrower story run (c.in_ok-tell_row.ensures.narrower story run h);
      keeps = λ story run e h valued. c.in_ok-tell_row.ensures.keeps story run (ap (λ (xs : List StepRow). slice_get xs c.loop-i.i) e ∙ at) (i.keeps story run e h valued) (i.same.onward (value_in story.rows run) valued);
    }
