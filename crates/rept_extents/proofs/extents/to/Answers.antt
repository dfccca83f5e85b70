use Rattle.std.proofs.Common.{◌<◌, suc, sym, subst, arith}
use Rattle.rept_steps.specs.Course.{Course, IsSoundCourse}
use Rattle.rept_order.specs.Ordered.{course_in}
use Rattle.rept_moments.specs.Points.{points_in}
use Rattle.rept_moments.proofs.Places.{leg_below}
use Rattle.rept_extents.proofs.Acting.{past_all}
use Rattle.rept_extents.proofs.extents.to.Goals as goal

pub place-thread-requires : goal.place-thread-requires
place-thread-requires c = let low : suc c.args.row < points_in c.args.many.now = leg_below c.args.many.now c.args.row c.requires.row in omega arith

pub returns-in-Some : goal.returns-in-Some
returns-in-Some c = past_all c.args.many.now (subst (λ (C : Course). IsSoundCourse C) (sym c.requires.course) c.requires.sound) (course_in c.args.order) c.args.row c.place-thread.result c.in-Some.end c.first_after.result c.requires.course c.place-thread.ensures c.in-Some.ensures c.first_after.ensures
