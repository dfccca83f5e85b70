use Rattle.rept_timeline.specs.Paths.{timeline}
use Rattle.std.proofs.Common.{subst}
use Rattle.rept_report.specs.Timeline.{IsRowBetween}
use Rattle.rept_log.specs.Fronts.{Stored}
use Rattle.rept_log.proofs.front.Front.row_between.Goals as goal

pub returns : goal.returns
returns g c = subst (λ (b : Stored). IsRowBetween (timeline b.paths) c.args.from c.args.to c.row_between.result) c.self.view_is c.row_between.ensures
