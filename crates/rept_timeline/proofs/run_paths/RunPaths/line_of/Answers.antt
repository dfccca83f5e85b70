use Rattle.rept_extents.specs.Timelines.{time_of}
use Rattle.rept_timeline.proofs.Casting.{line_from, is_in}
use Rattle.rept_timeline.proofs.run_paths.RunPaths.line_of.Goals as goal

pub line-requires : goal.line-requires
line-requires c = is_in (time_of c.args.self.now.ways).moments c.args.self.now.lines c.args.number c.args.self.now.lined c.requires

pub returns : goal.returns
returns c = line_from (time_of c.args.self.now.ways).moments c.args.self.now.lines c.args.number c.line.result c.args.self.now.lined c.requires c.line.ensures
