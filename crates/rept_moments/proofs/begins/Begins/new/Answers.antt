use Rattle.rept_moments.proofs.Beginning.{begins_are, lowered_order}
use Rattle.rept_moments.proofs.begins.Begins.new.Goals as goal

pub invariant_of-result : goal.invariant_of-result
invariant_of-result c = lowered_order c.sort.new.list.items c.lower.new.list.items c.lower.ensures c.in_ok-sort.ensures.sorted

pub returns : goal.returns
returns c = begins_are c.args.points.now c.in_ok-list.list.items c.sort.new.list.items c.lower.new.list.items c.in_ok-list.ensures c.sort.ensures.same c.lower.ensures
