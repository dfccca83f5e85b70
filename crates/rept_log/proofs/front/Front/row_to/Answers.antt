use Rattle.rept_timeline.specs.Paths.{timeline}
use Rattle.std.proofs.Common.{subst}
use Rattle.rept_report.specs.Timeline.{IsLeastFrom, IsRowTo}
use Rattle.rept_log.specs.Fronts.{Stored}
use Rattle.rept_log.proofs.front.Front.row_to.Goals as goal

pub returns : goal.returns
returns g c = subst (λ (b : Stored). IsLeastFrom (IsRowTo (timeline b.paths) c.args.number) c.args.least c.row_to.result) c.self.view_is c.row_to.ensures
