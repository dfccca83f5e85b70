use Rattle.rept_narrow.proofs.Combining.{combined_as}
use Rattle.rept_narrow.proofs.inverse.combined.Goals as goal

pub returns : goal.returns
returns c = combined_as c.args.op c.args.a c.args.b c.register.result c.register-2.result c.register-3.result c.apply.result c.apply.ensures
