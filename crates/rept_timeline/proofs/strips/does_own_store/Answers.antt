use Rattle.std.proofs.Common.{sym, ◌∙◌}
use Rattle.rept_timeline.proofs.Steady.{quiet_row, quiet_none}
use Rattle.rept_timeline.proofs.strips.does_own_store.Goals as goal

pub returns-in-Some : goal.returns-in-Some
returns-in-Some c = λ no. quiet_row c.args.many.now c.args.number c.in-Some.row c.in-Some.ensures (sym c.stores.ensures ∙ no)

pub returns-in-None : goal.returns-in-None
returns-in-None c = λ no. quiet_none c.args.many.now c.args.number c.in-None.ensures
