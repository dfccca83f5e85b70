use Rattle.rept_order.specs.Ordered.{course_in}
use Rattle.rept_moments.proofs.Places.{edges_more, edges_all}
use Rattle.rept_moments.proofs.points.edge_times.Goals as goal

pub loop-place-preserved : goal.loop-place-preserved
loop-place-preserved c = edges_more (course_in c.args.order) c.args.places.now c.loop-place.place-index _ c.loop-place.edges.items c.push.new.self.items c.edges_of.result c.requires.places c.loop-place-test.true c.loop-place.invariant c.edges_of.ensures c.in_ok-push.ensures.items

pub returns : goal.returns
returns c = edges_all (course_in c.args.order) c.args.places.now c.loop-place.place-index c.loop-place.edges.items c.requires.places c.loop-place-test.false c.loop-place.auto.place-index-end c.loop-place.invariant
