use Rattle.rept_moments.proofs.Adding.{adds_one, adds_own}
use Rattle.rept_moments.proofs.nexts.add_other.Goals as goal

pub returns-in_ok-push : goal.returns-in_ok-push
returns-in_ok-push c = adds_one c.args.own c.args.number c.args.list.now.items c.push.new.self.items c.if-number-own.true c.in_ok-push.ensures.items

pub returns-else-number-own : goal.returns-else-number-own
returns-else-number-own c = adds_own c.args.own c.args.number c.args.list.now.items c.if-number-own.false
