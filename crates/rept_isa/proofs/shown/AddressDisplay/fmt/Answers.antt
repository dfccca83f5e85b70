use Rattle.std.proofs.Common.{arith}
use Rattle.std.proofs.lemmas.Grind.{common_steps}
use Rattle.rept_isa.specs.Texts.{address_text}
use Rattle.rept_isa.proofs.shown.AddressDisplay.fmt.Goals as goal

pub returns-clause-writes : goal.returns-clause-writes
unfolding address_text
returns-clause-writes g c = grind (arith, common_steps)
