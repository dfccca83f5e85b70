use Rattle.rept_moments.proofs.Places.{below_in}
use Rattle.rept_moments.proofs.many.Many.is_first_later.Goals as goal

pub thread-requires : goal.thread-requires
thread-requires c = below_in c.self.inside.points c.args.self.now c.args.side.point c.self.view_is c.requires.side

pub thread-requires-2 : goal.thread-requires-2
thread-requires-2 c = below_in c.self.inside.points c.args.self.now c.args.first.point c.self.view_is c.requires.first
