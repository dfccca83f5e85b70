use Rattle.rept_moments.proofs.Places.{below_in}
use Rattle.rept_moments.proofs.many.Many.is_untraced_before.Goals as goal

pub is_untraced_past-requires : goal.is_untraced_past-requires
is_untraced_past-requires c = below_in c.self.inside.points c.args.self.now c.args.row c.self.view_is c.requires
