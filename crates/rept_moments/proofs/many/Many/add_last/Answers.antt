use Rattle.std.proofs.Common.{[], ◌+◌, ◌-◌, length}
use Rattle.std.proofs.lemmas.Result.{on_ok_weaker}
use Rattle.rept_steps.specs.Course.{rows_of}
use Rattle.rept_moments.specs.Nexts.{merged_nexts, last_nexts, Member}
use Rattle.rept_moments.proofs.Adding.{adds_same, adds_none, last_none, last_some}
use Rattle.rept_moments.proofs.many.Many.add_last.Goals as goal

pub returns-then-rows-eq0 : goal.returns-then-rows-eq0
returns-then-rows-eq0 c =
    adds_same c.args.own [] (last_nexts c.args.self.now c.args.thread (length (rows_of c.args.self.now c.args.thread))) c.args.list.now.items c.args.list.now.items
    (last_none c.args.self.now c.args.thread c.rows-rows.result c.rows-rows.ensures.value c.if-rows-eq0.true)
    (adds_none c.args.own (Member []) c.args.list.now.items (λ v h. h))

pub returns-else-rows-eq0 : goal.returns-else-rows-eq0
returns-else-rows-eq0 c =
    on_ok_weaker c.add_merged.result
    (λ its. adds_same c.args.own (merged_nexts c.args.self.now (c.first-first.result + (c.rows-rows.result - 1))) (last_nexts c.args.self.now c.args.thread (length (rows_of c.args.self.now c.args.thread))) c.args.list.now.items c.add_merged.new.list.items
    (last_some c.args.self.now c.args.thread c.rows-rows.result c.first-first.result c.rows-rows.ensures.value c.if-rows-eq0.false c.first-first.ensures) its)
    c.add_merged.ensures
