use Rattle.rept_moments.proofs.Places.{row_some, row_none}
use Rattle.rept_moments.proofs.points.Points.row.Goals as goal

pub returns-in-Some : goal.returns-in-Some
returns-in-Some c = row_some _ _ _ _ c.self.invariant c.args.self.now c.args.point c.in-Some.place.now c.deref.result.now c.row_from.result c.self.view_is c.deref.ensures.value c.in-Some.ensures.lookup.0 c.in-Some.ensures.lookup.1 c.row_from.ensures

pub returns-in-None : goal.returns-in-None
returns-in-None c = row_none _ _ _ _ c.self.invariant c.args.self.now c.args.point c.deref.result.now c.self.view_is c.deref.ensures.value c.in-None.ensures.lookup.3
