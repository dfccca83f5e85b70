use Rattle.std.proofs.Common.{ap}
use Rattle.std.specs.Option.{is_some}
use Rattle.rept_analysis.proofs.analysis.Analysis.lacks_first.Goals as goal

pub moment_at-point-requires : goal.moment_at-point-requires
moment_at-point-requires g c = ap is_some c.requires
