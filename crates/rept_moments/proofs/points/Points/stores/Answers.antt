use Rattle.rept_moments.proofs.Places.{stores_some, stores_none}
use Rattle.rept_moments.proofs.points.Points.stores.Goals as goal

pub returns-in-Some : goal.returns-in-Some
returns-in-Some c = stores_some _ _ _ _ c.self.invariant c.args.self.now c.args.point c.in-Some.edges.now c.deref.result.now c.self.view_is c.deref.ensures.value c.in-Some.ensures.lookup.0 c.in-Some.ensures.lookup.1

pub returns-in-None : goal.returns-in-None
returns-in-None c = stores_none _ _ _ _ c.self.invariant c.args.self.now c.args.point c.deref.result.now c.self.view_is c.deref.ensures.value c.in-None.ensures.lookup.3
