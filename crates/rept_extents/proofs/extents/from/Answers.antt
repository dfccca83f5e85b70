use Rattle.std.proofs.Common.{◌<◌, suc, arith}
use Rattle.rept_order.specs.Ordered.{course_in}
use Rattle.rept_moments.specs.Points.{points_in}
use Rattle.rept_moments.proofs.Places.{leg_below}
use Rattle.rept_extents.proofs.Acting.{ahead_all}
use Rattle.rept_extents.proofs.extents.from.Goals as goal

pub place-thread-requires : goal.place-thread-requires
place-thread-requires c = let low : suc c.args.row < points_in c.args.many.now = leg_below c.args.many.now c.args.row c.requires.row in omega arith

pub returns : goal.returns
returns c = ahead_all c.args.many.now (course_in c.args.order) c.args.row c.place-thread.result c.begin-begin.result c.first_reaching.result c.requires.course c.place-thread.ensures c.begin-begin.ensures c.first_reaching.ensures
