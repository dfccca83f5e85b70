use Rattle.std.proofs.Common.{arith}
use Rattle.rept_questions.proofs.writers.next_below.Goals as goal

pub returns-then-writes-clause-quiet : goal.returns-then-writes-clause-quiet
returns-then-writes-clause-quiet g c = λ k over upto. absurd (omega (arith, over, upto))
