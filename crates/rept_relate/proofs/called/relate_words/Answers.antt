use Rattle.std.proofs.lemmas.Result.{on_ok_weaker}
use Rattle.rept_relate.proofs.Leaving.{call_others, left_held}
use Rattle.rept_relate.proofs.called.relate_words.Goals as goal

pub returns-in-Ecall-clause-below : goal.returns-in-Ecall-clause-below
returns-in-Ecall-clause-below c = λ limit below less other. c.leave.ensures.below limit below

pub returns-in-Ecall-clause-keeps : goal.returns-in-Ecall-clause-keeps
returns-in-Ecall-clause-keeps c = λ value image_end s t w within valued held. (valued, left_held c.args.words.now.slots.items c.leave.new.slots.items c.args.step.now.access value s t c.leave.ensures.left (call_others c.args.step.now.row c.args.step.now.node c.args.step.now.nodes value image_end s t c.args.step.now.access c.in-Ecall.is w within) held)

pub returns-in_default : goal.returns-in_default
returns-in_default c = record {
  len = c.relate_memory.ensures.len;
  below = c.relate_memory.ensures.below;
  keeps = on_ok_weaker c.relate_memory.result (λ keeps value image_end s t w within valued held. keeps value image_end s t w valued held) c.relate_memory.ensures.keeps;
  refuses = c.relate_memory.ensures.refuses;
}
