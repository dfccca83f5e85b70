use Rattle.rept_writing.proofs.Order.{placed}
use Rattle.rept_writing.proofs.narrow.seek.Goals as goal

pub returns-in-Err-clause-found : goal.returns-in-Err-clause-found
returns-in-Err-clause-found c = placed c.args.narrow.now c.args.sought c.in-Err.at c.requires c.in-Err.ensures.position
