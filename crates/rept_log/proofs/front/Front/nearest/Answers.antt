use Rattle.std.proofs.lemmas.Result.{IfOk-weaker}
use Rattle.rept_report.specs.Nearest.Nets.{IsNearest}
use Rattle.rept_report.specs.Timeline.{Timeline}
use Rattle.rept_report.specs.Origin.Bridges.{ByteAlong, links_over}
use Rattle.rept_log.proofs.Fronts.{moved}
use Rattle.rept_log.proofs.front.Front.nearest.Goals as goal

pub returns : goal.returns
returns g c = IfOk-weaker c.nearest_origin.result _ _ (λ found h. moved g.W.Partial.sets g.W.Transfer.moves g.R.RowRules.rules _ c.args.self.now c.args.byte.now.front.now c.self.view_is c.requires.same c.args.byte.now.address (λ (t : Timeline) (b : ByteAlong). IsNearest (links_over t b) c.args.number found) h) c.nearest_origin.ensures
