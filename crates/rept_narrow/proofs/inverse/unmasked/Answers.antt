use Rattle.rept_narrow.proofs.Unmasking.{unmasked_as}
use Rattle.rept_narrow.proofs.inverse.unmasked.Goals as goal

pub returns : goal.returns
returns c = λ x y small p q. unmasked_as c.args.made c.args.other c.new.result c.value-value.result c.loose.result c.value.result x y c.value-value.ensures c.loose.ensures c.value.ensures c.new.ensures.value c.new.ensures.loose small p q
