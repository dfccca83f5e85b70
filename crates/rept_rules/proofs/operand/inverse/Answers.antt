use Rattle.rept_rules.specs.Laws.InverseLemmas.{inverse-only}
use Rattle.rept_rules.proofs.operand.inverse.Goals as goal

pub returns : goal.returns
returns c = inverse-only c.args.o c.inverse_odd.result c.requires c.inverse_odd.type_inv c.inverse_odd.ensures
