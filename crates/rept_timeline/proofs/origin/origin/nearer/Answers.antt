use Rattle.rept_timeline.specs.Paths.{timeline}
use Rattle.std.proofs.Common.{◌≡◌, true, Option, None, Some, ℕ, subst, sym, ◌∙◌}
use Rattle.rept_report.specs.declared.origin.step.Direction.{Direction}
use Rattle.rept_report.specs.declared.origin.step.Direction.TheVariants.{Onward, Back}
use Rattle.rept_report.specs.Origin.Bridges.{links_over, carries_by, IsNearerAmong}
use Rattle.rept_report.proofs.OriginLemmas.Links.{step_is_beside, one_onward}
use Rattle.rept_timeline.proofs.origin.origin.nearer.Goals as goal

pub unwrap-requires : goal.unwrap-requires
unwrap-requires g c =
    let t = timeline c.args.paths.now in
    let b = g.S.Sources.byte c.args.sources.now in
    let back = subst (IsNearerAmong (λ w. carries_by t b c.args.number (record { from = w; way = Back })) (links_over t b) c.args.found.links) c.in-None.is c.in_ok-later.ensures in
    one_onward t b c.args.number c.args.found c.requires.nearest c.requires.far c.in_ok-earlier-in-None.earlier back c.in_ok-earlier-in-None.ensures

pub returns-in-Some-clause-nearer : goal.returns-in-Some-clause-nearer
returns-in-Some-clause-nearer g c =
    let t = timeline c.args.paths.now in
    let b = g.S.Sources.byte c.args.sources.now in
    step_is_beside t b c.args.number c.args.found c.requires.nearest c.requires.far Back c.in-Some.from (subst (IsNearerAmong (λ w. carries_by t b c.args.number (record { from = w; way = Back })) (links_over t b) c.args.found.links) c.in-Some.is c.in_ok-later.ensures)

pub returns-in_ok-earlier-in-None-clause-nearer : goal.returns-in_ok-earlier-in-None-clause-nearer
returns-in_ok-earlier-in-None-clause-nearer g c =
    let t = timeline c.args.paths.now in
    let b = g.S.Sources.byte c.args.sources.now in
    step_is_beside t b c.args.number c.args.found c.requires.nearest c.requires.far Onward c.unwrap.result (subst (IsNearerAmong (λ w. carries_by t b c.args.number (record { from = w; way = Onward })) (links_over t b) c.args.found.links) c.unwrap.ensures c.in_ok-earlier-in-None.ensures)
