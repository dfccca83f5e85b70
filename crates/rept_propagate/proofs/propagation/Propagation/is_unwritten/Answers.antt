use Rattle.std.proofs.Common.{arith}
use Rattle.rept_propagate.proofs.propagation.Propagation.is_unwritten.Goals as goal

pub moment_at-requires : goal.moment_at-requires
moment_at-requires g c = (rw c.in-Some.is at c.row_at.ensures).0

pub returns-in-None : goal.returns-in-None
returns-in-None g c = λ _ i lt. (rw c.in-None.is at c.first_acting.ensures) i (omega arith) lt
