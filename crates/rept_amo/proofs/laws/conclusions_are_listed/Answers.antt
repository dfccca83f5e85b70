use Rattle.rept_amo.proofs.Rows.{row_concludes}
use Rattle.rept_amo.proofs.laws.conclusions_are_listed.Goals as goal

pub returns : goal.returns
returns c = row_concludes
