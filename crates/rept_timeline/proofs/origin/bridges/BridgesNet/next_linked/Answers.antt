use Rattle.rept_timeline.specs.Paths.{timeline}
use Rattle.rept_report.specs.declared.origin.step.Direction.TheVariants.{Onward, Back}
use Rattle.rept_report.proofs.OriginLemmas.Carrying.{carries}
use Rattle.rept_timeline.proofs.origin.bridges.BridgesNet.next_linked.Goals as goal

pub returns : goal.returns
returns g c = c.lesser.ensures (carries (timeline c.args.self.now.paths.now) (g.S.Sources.byte c.args.self.now.sources.now) c.args.number Onward) (carries (timeline c.args.self.now.paths.now) (g.S.Sources.byte c.args.self.now.sources.now) c.args.number Back) c.args.least c.beside_from.ensures c.beside_from-2.ensures
