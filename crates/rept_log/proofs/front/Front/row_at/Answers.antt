use Rattle.rept_timeline.specs.Paths.{timeline}
use Rattle.std.proofs.Common.{subst}
use Rattle.rept_report.specs.Timeline.{IsRowAt}
use Rattle.rept_log.specs.Fronts.{Stored}
use Rattle.rept_log.proofs.front.Front.row_at.Goals as goal

pub returns : goal.returns
returns g c = subst (λ (b : Stored). IsRowAt (timeline b.paths) c.args.number c.row_at.result) c.self.view_is c.row_at.ensures
