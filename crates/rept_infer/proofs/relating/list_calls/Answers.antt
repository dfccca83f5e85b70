use Rattle.std.proofs.Common.{List, slice_get, ap, ◌∙◌}
use Rattle.rept_isa.specs.declared.row.StepRow.{StepRow}
use Rattle.rept_relate.proofs.Counting.{at_row, length_more}
use Rattle.rept_relate.proofs.Leaving.{calls_more}
use Rattle.rept_infer.proofs.relating.list_calls.Goals as goal

pub loop-i-preserved : goal.loop-i-preserved
loop-i-preserved c =
    let i = c.loop-i.invariant in
    let row = c.index-rows-i.result in
    let at = at_row c.args.path.rows.now c.loop-i.i row c.loop-i-test.true c.index-rows-i.is in
    record {
      count = length_more c.loop-i.calls.items c.push.new.self.items c.row_access.result c.loop-i.i i.count c.in_ok-push.ensures.items;
      within = λ story run e image h. calls_more story.image_end c.args.path.rows.now run c.loop-i.calls.items c.push.new.self.items c.loop-i.i row c.row_access.result i.count (i.within story run e image h) at (c.row_access.ensures story run image (ap (λ (xs : List StepRow). slice_get xs c.loop-i.i) e ∙ at) h) c.in_ok-push.ensures.items;
    }
