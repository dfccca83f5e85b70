use Rattle.rept_timeline.specs.Paths.{timeline}
use Rattle.std.proofs.Common.{◌≡◌, subst}
use Rattle.rept_report.specs.Views.{instant_of}
use Rattle.rept_log.specs.Fronts.{Stored}
use Rattle.rept_log.proofs.front.Front.instant.Goals as goal

pub returns : goal.returns
returns g c = subst (λ (b : Stored). c.instant_at.result ≡ instant_of (timeline b.paths).moments c.args.row c.args.when c.args.cell.now) c.self.view_is c.instant_at.ensures
