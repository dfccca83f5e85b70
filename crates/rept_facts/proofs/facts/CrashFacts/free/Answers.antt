use Rattle.std.proofs.Common.{ap}
use Rattle.std.specs.Option.{is_some}
use Rattle.rept_facts.proofs.facts.CrashFacts.free.Goals as goal

pub moment_at-before-requires : goal.moment_at-before-requires
moment_at-before-requires g c = ap is_some c.requires.row
