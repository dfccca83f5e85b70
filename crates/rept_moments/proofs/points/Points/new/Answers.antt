use Rattle.std.proofs.Common.{arith}
use Rattle.rept_moments.proofs.Places.{few_threads}
use Rattle.rept_moments.proofs.points.Points.new.Goals as goal

pub places-requires : goal.places-requires
places-requires c = let most = few_threads c.args.run.now.threads in let few = c.requires.few in omega arith
