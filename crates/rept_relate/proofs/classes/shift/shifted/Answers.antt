use Rattle.rept_relate.proofs.ClassesLemmas.Shifting.{sum_has, beside_nothing}
use Rattle.rept_relate.proofs.classes.shift.shifted.Goals as goal

pub returns-then-by-eq0 : goal.returns-then-by-eq0
returns-then-by-eq0 c = λ v has. beside_nothing c.args.set v c.args.by c.if-by-eq0.true has

pub returns : goal.returns
returns c = sum_has c.args.set c.exact.result c.register.result c.register-2.result c.register-3.result c.args.by c.apply.result c.ranges.by.fits c.exact.ensures c.apply.ensures
