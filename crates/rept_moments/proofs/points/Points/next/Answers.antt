use Rattle.std.proofs.Common.{◌≤◌, subst, arith}
use Rattle.rept_steps.specs.Course.{Course}
use Rattle.rept_moments.specs.Points.{points_in}
use Rattle.rept_moments.proofs.Places.{leg_below}
use Rattle.rept_moments.proofs.points.Points.next.Goals as goal

pub overflow_add-result : goal.overflow_add-result
overflow_add-result c =
    let less = leg_below c.args.self.now c.args.point c.requires in
    let few : points_in c.args.self.now ≤ 66560 = subst (λ (D : Course). points_in D ≤ 66560) c.self.view_is c.self.invariant.few in
    omega arith
