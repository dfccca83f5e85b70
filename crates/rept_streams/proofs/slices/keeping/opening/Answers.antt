use Rattle.std.proofs.Common.{ap, Some, ◌∙◌}
use Rattle.rept_streams.proofs.SlicesLemmas.KeepLemmas.{opens_never, opens_at}
use Rattle.rept_streams.proofs.slices.keeping.opening.Goals as goal

pub returns-in-None : goal.returns-in-None
returns-in-None c = λ l is. opens_never c.args.window.now l is c.in-None.is

pub returns-in-Some : goal.returns-in-Some
returns-in-Some c = λ l is. ap Some c.clock_of.ensures ∙ opens_at c.args.window.now l c.in-Some.begin is c.in-Some.is
