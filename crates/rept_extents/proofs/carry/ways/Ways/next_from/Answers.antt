use Rattle.std.proofs.Common.{subst}
use Rattle.rept_moments.specs.declared.course.NumberedRun.{NumberedRun}
use Rattle.rept_moments.specs.Courses.{seen_in}
use Rattle.rept_extents.specs.Carry.Links.{IsNextFrom}
use Rattle.rept_extents.proofs.CarryLemmas.Keeping.{are_kept, linked_from}
use Rattle.rept_extents.proofs.carry.ways.Ways.next_from.Goals as goal

pub returns-in-Many : goal.returns-in-Many
returns-in-Many c =
    let kept = c.self.inside in
    let known = are_kept kept.course c.in-Many.field-0 kept.links c.in-Many.is c.self.invariant.ways in
    subst (λ (x : NumberedRun). IsNextFrom (seen_in x).moments c.args.number c.args.least c.next_from.result) c.self.view_is (linked_from (seen_in kept.course).moments kept.links known c.args.number c.args.least c.next_from.result c.next_from.ensures)
