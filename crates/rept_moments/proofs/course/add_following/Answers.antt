use Rattle.std.proofs.Common.{arith}
use Rattle.rept_moments.proofs.Alone.{alone_some, alone_none}
use Rattle.rept_moments.proofs.course.add_following.Goals as goal

pub returns-in_ok-push : goal.returns-in_ok-push
returns-in_ok-push c = alone_some c.args.last c.args.number c.args.list.now.items c.push.new.self.items c.if-number-last.true c.in_ok-push.ensures.items

pub returns-else-number-last : goal.returns-else-number-last
returns-else-number-last c = alone_none c.args.last c.args.number c.args.list.now.items (omega (arith, c.if-number-last.false))
