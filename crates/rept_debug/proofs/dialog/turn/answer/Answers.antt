use Rattle.std.proofs.Common.{rules}
use Rattle.rept_debug.proofs.dialog.turn.answer.Goals as goal

-- the reply is that of the packet
pub returns-clause-turn : goal.returns-clause-turn
returns-clause-turn g c = (c.in_ok-reply.reply.text, c.in_ok-reply.ensures.text, search rules, search rules)
