use Rattle.std.proofs.Common.{◌≡◌, Some, true}
use Rattle.rept_report.specs.Nearest.Nets.{IsNearest}
use Rattle.rept_report.specs.Timeline.{Timeline}
use Rattle.rept_report.specs.Origin.Bridges.{ByteAlong, links_over, carries_by, IsLinkBeside}
use Rattle.rept_report.proofs.OriginLemmas.Reached.{beside_is_nearer}
use Rattle.rept_log.specs.Fronts.{basis_of, front_of, setting_in}
use Rattle.rept_log.proofs.Fronts.{moved, moved_back, both_ok}
use Rattle.rept_log.proofs.front.Front.step_to.Goals as goal

pub nearer-requires-clause-nearest : goal.nearer-requires-clause-nearest
nearer-requires-clause-nearest g c = moved_back g.W.Partial.sets g.W.Transfer.moves g.R.RowRules.rules _ c.args.self.now c.args.byte.now.front.now c.self.view_is c.requires.same c.args.byte.now.address (λ (t : Timeline) (b : ByteAlong). IsNearest (links_over t b) c.args.number (Some c.args.found)) c.requires.nearest

pub returns : goal.returns
returns g c = both_ok c.nearer.result _ _ _
    (λ step carries beside. record {
      carries = moved g.W.Partial.sets g.W.Transfer.moves g.R.RowRules.rules _ c.args.self.now c.args.byte.now.front.now c.self.view_is c.requires.same c.args.byte.now.address (λ (t : Timeline) (b : ByteAlong). carries_by t b c.args.number step ≡ true) carries;
      nearer = beside_is_nearer (setting_in (front_of g.W.Partial.sets g.W.Transfer.moves g.R.RowRules.rules (basis_of c.args.self.now))) c.count-count.ensures.laws c.args.self.now.facts c.args.byte.now.address c.args.number step.from c.args.found c.requires.nearest (moved g.W.Partial.sets g.W.Transfer.moves g.R.RowRules.rules _ c.args.self.now c.args.byte.now.front.now c.self.view_is c.requires.same c.args.byte.now.address (λ (t : Timeline) (b : ByteAlong). IsLinkBeside (links_over t b) c.args.number c.args.found.links step.from) beside);
    })
    c.nearer.ensures.carries c.nearer.ensures.nearer
