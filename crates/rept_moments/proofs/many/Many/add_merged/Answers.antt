use Rattle.std.proofs.Common.{[]}
use Rattle.std.proofs.lemmas.Result.{on_ok_weaker}
use Rattle.rept_order.specs.Moments.Moment.{after}
use Rattle.rept_moments.specs.Naming.Numbered.{row_on}
use Rattle.rept_moments.specs.Nexts.{nexts_of, merged_nexts, Member}
use Rattle.rept_moments.proofs.Adding.{adds_same, adds_none, merged_then, merged_else, merged_leads}
use Rattle.rept_moments.proofs.many.Many.add_merged.Goals as goal

pub add_after-requires : goal.add_after-requires
add_after-requires c = merged_leads c.args.self.now c.args.point c.is_merged.result c.is_merged.ensures.value c.if-is_merged.true

pub returns-then-is_merged : goal.returns-then-is_merged
returns-then-is_merged c =
    on_ok_weaker c.add_after.result
    (λ its. adds_same c.args.own (nexts_of c.args.self.now (after (row_on c.args.self.now c.args.point))) (merged_nexts c.args.self.now c.args.point) c.args.list.now.items c.add_after.new.list.items
    (merged_then c.args.self.now c.args.point c.is_merged.result c.is_merged.ensures.value c.if-is_merged.true) its)
    c.add_after.ensures

pub returns-else-is_merged : goal.returns-else-is_merged
returns-else-is_merged c =
    adds_same c.args.own [] (merged_nexts c.args.self.now c.args.point) c.args.list.now.items c.args.list.now.items
    (merged_else c.args.self.now c.args.point c.is_merged.result c.is_merged.ensures.value c.if-is_merged.false)
    (adds_none c.args.own (Member []) c.args.list.now.items (λ v h. h))
