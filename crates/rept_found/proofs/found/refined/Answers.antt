use Rattle.std.proofs.Common.{Result, IsOk, subst}
use Rattle.rept_facts.specs.declared.stop.Stop.{Stop}
use Rattle.rept_facts.specs.declared.stop.Stop.TheVariants.{Conflict, OutOfMemory}
use Rattle.rept_found.proofs.Stops.{stop_at}
use Rattle.rept_found.proofs.found.refined.Goals as goal

pub returns-in-Ok-clause-log : goal.returns-in-Ok-clause-log
returns-in-Ok-clause-log g c = c.account.ensures.log c.in-Ok.ensures.complete

pub returns-clause-conflict : goal.returns-clause-conflict
returns-clause-conflict g c = λ kind e. c.refine.ensures.conflict kind (stop_at c.in-Err.stop (Conflict kind) c.refine.result c.in-Err.is e)

pub returns-clause-impossible : goal.returns-clause-impossible
returns-clause-impossible g c = λ kind e. c.refine.ensures.impossible kind (stop_at c.in-Err.stop (Conflict kind) c.refine.result c.in-Err.is e)

pub returns-clause-joins : goal.returns-clause-joins
returns-clause-joins g c = λ joins lined e. c.refine.ensures.joins joins lined (stop_at c.in-Err.stop OutOfMemory c.refine.result c.in-Err.is e)

pub returns-clause-exact : goal.returns-clause-exact
returns-clause-exact g c = λ joins lined consistent. subst (λ (r : Result _ Stop). IsOk r) c.in-Err.is (c.refine.ensures.exact joins lined consistent)
