use Rattle.std.proofs.Common.{sym, ◌∙◌}
use Rattle.rept_narrow.proofs.Calling.{exact_is}
use Rattle.rept_infer.proofs.fresh.value_at.Goals as goal

pub returns-in-Some : goal.returns-in-Some
returns-in-Some c = λ story run le h. exact_is story run c.args.table.now c.args.point c.register.result c.args.number c.in-Some.value c.at.result h le c.register.ensures c.at.ensures.value (sym c.as_exact.ensures ∙ c.in-Some.is)
