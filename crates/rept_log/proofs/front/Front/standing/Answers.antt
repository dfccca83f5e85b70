use Rattle.std.proofs.Common.{subst}
use Rattle.rept_report.specs.Nearest.Nets.{IsNearest}
use Rattle.rept_report.specs.Origin.Logs.{links_in}
use Rattle.rept_log.specs.Fronts.{basis_of, front_of, setting_in}
use Rattle.rept_log.proofs.Finding.{found_is, none_is}
use Rattle.rept_log.proofs.front.Front.standing.Goals as goal

pub returns-in-Some : goal.returns-in-Some
returns-in-Some g c =
    let S = setting_in (front_of g.W.Partial.sets g.W.Transfer.moves g.R.RowRules.rules (basis_of c.args.self.now)) in
    let a = c.args.byte.now.address in
    found_is S c.args.self.now.facts a c.count-count.ensures.laws c.args.byte.now.small c.args.number c.requires.inside (λ v w h k. c.end-end.ensures.single c.args.number a v w h k) c.in-Some.found (subst (IsNearest (links_in S c.args.self.now.facts a) c.args.number) c.in-Some.is c.in_ok-nearest.ensures)

pub returns-in-None : goal.returns-in-None
returns-in-None g c =
    let S = setting_in (front_of g.W.Partial.sets g.W.Transfer.moves g.R.RowRules.rules (basis_of c.args.self.now)) in
    let a = c.args.byte.now.address in
    none_is S c.args.self.now.facts a c.count-count.ensures.laws c.args.byte.now.small c.args.number (subst (IsNearest (links_in S c.args.self.now.facts a) c.args.number) c.in-None.is c.in_ok-nearest.ensures)
