use Rattle.std.proofs.Common.{arith, sym}
use Rattle.rept_questions.proofs.StackLemmas.{place_back}
use Rattle.rept_questions.proofs.stack.place_of.Goals as goal

pub returns : goal.returns
returns c = sym (place_back c.args.pc c.args.frames.now c.args.k (record { at = 0; back = 0 }) (omega (arith, c.if-k-eq0.false)) (omega (arith, c.if-k-frames.false)))
