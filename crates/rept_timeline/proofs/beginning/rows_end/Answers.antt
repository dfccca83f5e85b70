use Rattle.rept_timeline.proofs.Earliest.{none_past}
use Rattle.rept_timeline.proofs.beginning.rows_end.Goals as goal

pub returns-else-most-last-clause-none : goal.returns-else-most-last-clause-none
returns-else-most-last-clause-none c k low most some = none_past c.args.many.now c.last_point-last.result k c.last_point-last.ensures low some
