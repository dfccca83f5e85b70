use Rattle.rept_moments.proofs.NamingLemmas.Carried.{carried_along, carried_quiet}
use Rattle.rept_moments.proofs.naming.laws.quiet_is_carried.Goals as goal

pub returns-clause-carried : goal.returns-clause-carried
returns-clause-carried g c = λ C D N K a m w sound names is its quiet. carried_along g.W.Partial.sets g.W.Transfer.moves g.R.RowRules.rules C D N sound names K a m w is its quiet

pub returns-clause-quiet : goal.returns-clause-quiet
returns-clause-quiet g c = λ C D N K a m w sound names only h. carried_quiet g.W.Partial.sets g.W.Transfer.moves g.R.RowRules.rules C D N sound names K a only m w h
