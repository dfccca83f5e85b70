use Rattle.std.proofs.Common.{sym, ◌∙◌}
use Rattle.rept_infer.proofs.Classing.{after_has}
use Rattle.rept_infer.proofs.relating.set_after.Goals as goal

pub returns-in-Some : goal.returns-in-Some
returns-in-Some c = λ story run h at. after_has story c.args.table.now run c.args.index c.in-Some.rd c.args.row.now c.at.result c.at.ensures.value (sym c.writes.ensures ∙ c.in-Some.is) h at
