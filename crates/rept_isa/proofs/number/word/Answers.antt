use Rattle.std.proofs.Common.{◌∙◌}
use Rattle.std.proofs.lemmas.Int.{to_z-of_z}
use mir.Syntax.{w32}
use Rattle.rept_isa.proofs.NumberLemmas.{word-cast}
use Rattle.rept_isa.proofs.number.word.Goals as goal

pub returns : goal.returns
returns c = (rw (to_z-of_z w32 c.args.imm c.ranges.imm) at c.cast_unsigned.ensures) ∙ word-cast c.args.imm c.ranges.imm
