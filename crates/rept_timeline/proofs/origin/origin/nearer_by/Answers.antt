use Rattle.rept_timeline.specs.Paths.{timeline, lawful}
use Rattle.std.proofs.Common.{sym, ◌∙◌, arith}
use Rattle.rept_report.specs.Origin.Bridges.{links_over, carries_by, linked_inside}
use Rattle.rept_report.proofs.OriginLemmas.Links.{not_nearer_first, not_nearer_more, none_nearer, none_nearer_past, way_inside}
use Rattle.rept_timeline.proofs.origin.origin.nearer_by.Goals as goal

pub loop-least-init : goal.loop-least-init
loop-least-init g c =
    let t = timeline c.args.bridges.now.paths.now in
    let b = g.S.Sources.byte c.args.bridges.now.sources.now in
    record { before = not_nearer_first (links_over t b) (λ w. carries_by t b c.args.number (record { from = w; way = c.args.way })) c.args.links; end = c.last-end.ensures }

pub loop-least-preserved : goal.loop-least-preserved
loop-least-preserved g c =
    let t = timeline c.args.bridges.now.paths.now in
    let b = g.S.Sources.byte c.args.bridges.now.sources.now in
    record {
      before = not_nearer_more (links_over t b) (λ w. carries_by t b c.args.number (record { from = w; way = c.args.way })) c.args.links c.loop-least.least c.in-Some.from c.in_ok-there.there c.in-Some.ensures c.in_ok-there.ensures (sym c.is_nearer.ensures ∙ c.if-is_nearer.false) c.loop-least.invariant.before;
      end = c.loop-least.invariant.end;
    }

pub returns-in_default : goal.returns-in_default
returns-in_default g c =
    let t = timeline c.args.bridges.now.paths.now in
    let b = g.S.Sources.byte c.args.bridges.now.sources.now in
    none_nearer (links_over t b) (λ w. carries_by t b c.args.number (record { from = w; way = c.args.way })) c.args.links c.loop-least.least c.in_default.ensures c.loop-least.invariant.before

pub returns-then-is_nearer : goal.returns-then-is_nearer
returns-then-is_nearer g c = (c.in-Some.ensures.0, (c.in_ok-there.there, c.in_ok-there.ensures, sym c.is_nearer.ensures ∙ c.if-is_nearer.true))

pub returns : goal.returns
returns g c =
    let t = timeline c.args.bridges.now.paths.now in
    let b = g.S.Sources.byte c.args.bridges.now.sources.now in
    let end = c.loop-least.invariant.end in
    let test = c.loop-least-test.false in
    none_nearer_past (links_over t b) (λ w. carries_by t b c.args.number (record { from = w; way = c.args.way })) c.args.links c.loop-least.least (links_over t b).last (λ w e. way_inside t b (lawful c.args.bridges.now.paths.now) c.args.number c.args.way w e) (omega (arith, end, test)) c.loop-least.invariant.before
