use Rattle.std.proofs.Common.{◌∙◌}
use Rattle.rept_isa.proofs.WordLemmas.{reads}
use Rattle.rept_isa.proofs.RangeLemmas.{in_range_some, spells_none}
use Rattle.rept_isa.proofs.decoder.decode.Goals as goal

pub returns-clause-only : goal.returns-clause-only
returns-clause-only c = λ i h. c.by_opcode.ensures.value ∙ reads c.args.word i h

pub returns-clause-in_range : goal.returns-clause-in_range
returns-clause-in_range c = in_range_some c.args.word c.by_opcode.result c.by_opcode.ensures.some

pub returns-clause-none : goal.returns-clause-none
returns-clause-none c = spells_none c.args.word c.by_opcode.result (λ i h. c.by_opcode.ensures.value ∙ reads c.args.word i h)
