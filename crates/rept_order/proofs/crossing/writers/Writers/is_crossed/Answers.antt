use Rattle.std.proofs.Common.{List, subst}
use Rattle.rept_order.specs.declared.crossing.writer.TimedWriter.{TimedWriter}
use Rattle.rept_order.specs.Crossing.Latest.{AreLatest}
use Rattle.rept_order.proofs.CrossingLemmas.Ends.{crossed_is}
use Rattle.rept_order.proofs.crossing.writers.Writers.is_crossed.Goals as goal

pub returns : goal.returns
returns c = crossed_is c.args.self.now c.self.inside.latest.items c.args.rest c.begun-count.result c.index.result.now c.reaches.result (subst (λ (ws : List TimedWriter). AreLatest ws c.self.inside.latest.items) c.self.view_is c.self.invariant.1) c.begun-count.ensures.few c.begun-count.ensures.before c.begun-count.ensures.after c.index.ensures c.reaches.ensures
