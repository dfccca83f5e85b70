use Rattle.rept_relate.proofs.Remembering.{placed}
use Rattle.rept_relate.proofs.storing.place_of.Goals as goal

pub returns-clause-keeps : goal.returns-clause-keeps
returns-clause-keeps c = λ value zero small valued.
    let r = c.in_ok-root.ensures.keeps value zero small valued in
    (c.set_of-set.ensures.same.onward value r.0, placed value c.in_ok-root.root c.args.base c.args.offset c.lo.result c.hi.result c.set_of-set.result r.1 (c.set_of-set.ensures.has value r.0) c.lo.ensures c.hi.ensures)
