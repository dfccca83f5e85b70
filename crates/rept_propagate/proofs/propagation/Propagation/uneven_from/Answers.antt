use Rattle.std.proofs.Common.{arith}
use Rattle.rept_propagate.proofs.propagation.Propagation.uneven_from.Goals as goal

pub returns-clause-up : goal.returns-clause-up
returns-clause-up g c = λ h. c.shut_to.ensures.up (c.walled_to-walled.ensures.up h)
