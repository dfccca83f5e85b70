use Rattle.rept_trace.proofs.Fitting.{fits}
use Rattle.rept_trace.proofs.Frames.{one_answer}
use Rattle.rept_trace.proofs.LeftOut.{shortened}
use Rattle.rept_trace.proofs.packets.Packets.next.Goals as goal

pub returns-clause-only : goal.returns-clause-only
returns-clause-only c = λ answer number rest a. one_answer _ _ _ answer _ number _ rest c.advance.ensures.answer a

pub returns-clause-shortened : goal.returns-clause-shortened
returns-clause-shortened c = shortened _

pub returns-clause-fields : goal.returns-clause-fields
returns-clause-fields c = fits _
