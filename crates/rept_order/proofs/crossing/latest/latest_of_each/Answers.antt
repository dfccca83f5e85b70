use Rattle.rept_order.proofs.CrossingLemmas.Ends.{table_more}
use Rattle.rept_order.proofs.crossing.latest.latest_of_each.Goals as goal

pub loop-writer-preserved : goal.loop-writer-preserved
loop-writer-preserved c = table_more c.args.list.now c.loop-writer.writer-index c.loop-writer.latest.items c.push-in-loop-writer.new.self.items c.loop-writer.known c.with-known.result c.loop-writer-test.true c.loop-writer.invariant c.with-known.ensures c.in_ok-push-2.ensures.items
