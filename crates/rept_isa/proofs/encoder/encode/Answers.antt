use Rattle.rept_isa.proofs.WordLemmas.{one_instruction}
use Rattle.rept_isa.proofs.WrittenLemmas.{written_spells, written_unordered, written_fence}
use Rattle.rept_isa.proofs.encoder.encode.Goals as goal

pub returns-clause-spelled : goal.returns-clause-spelled
returns-clause-spelled c = written_spells c.spell.result c.args.instr.now c.spell.ensures

pub returns-clause-only : goal.returns-clause-only
returns-clause-only c = λ i h. one_instruction c.spell.result i c.args.instr.now h (written_spells c.spell.result c.args.instr.now c.spell.ensures)

pub returns-clause-unordered : goal.returns-clause-unordered
returns-clause-unordered c = written_unordered c.spell.result c.args.instr.now c.spell.ensures

pub returns-clause-fence : goal.returns-clause-fence
returns-clause-fence c = written_fence c.spell.result c.args.instr.now c.spell.ensures
