use Rattle.std.proofs.Common.{get_or, arith}
use Rattle.rept_writing.proofs.Bounding.{within_next}
use Rattle.rept_writing.proofs.Reading.{hits_read}
use Rattle.rept_writing.proofs.bounds.bounds_of.Goals as goal

pub loop-m-preserved : goal.loop-m-preserved
loop-m-preserved c =
    within_next c.args.list.now c.args.wide.now c.args.start c.loop-m.m _ c.loop-m.bounds c.with_row-bounds.result
    (λ a. hits_read c.args.list.now (get_or c.args.wide.now c.loop-m.m 0) a _ (c.requires.inside c.loop-m.m 0 (omega arith))) c.with_row-bounds.ensures c.loop-m.invariant
