-- What is answered is reduced.
use Rattle.rept_known.proofs.BothMade.{new_some}
use Rattle.rept_known.proofs.both.Both.new.Goals as goal

pub returns-clause-some : goal.returns-clause-some
returns-clause-some c = new_some c.args.range c.args.bits c.common.result c.common.ensures
