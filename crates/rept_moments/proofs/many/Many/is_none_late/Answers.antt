use Rattle.rept_moments.proofs.Places.{below_in}
use Rattle.rept_moments.proofs.many.Many.is_none_late.Goals as goal

pub end-requires : goal.end-requires
end-requires c = below_in c.self.inside.points c.args.self.now c.args.side.point c.self.view_is c.requires.side
