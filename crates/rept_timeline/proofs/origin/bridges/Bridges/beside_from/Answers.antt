use Rattle.rept_timeline.specs.Paths.{timeline, lawful}
use Rattle.std.proofs.Common.{arith}
use Rattle.rept_report.proofs.OriginLemmas.Carrying.{not_first, not_more, least_found, least_none, least_past, leads, carries, carries_leads, leads_inside}
use Rattle.rept_timeline.proofs.origin.bridges.Bridges.beside_from.Goals as goal

pub loop-from-init : goal.loop-from-init
loop-from-init g c = record { up = omega arith; before = not_first (carries (timeline c.args.self.now.paths.now) (g.S.Sources.byte c.args.self.now.sources.now) c.args.number c.args.way) (leads (timeline c.args.self.now.paths.now) c.args.number c.args.way) (carries_leads (timeline c.args.self.now.paths.now) (g.S.Sources.byte c.args.self.now.sources.now) c.args.number c.args.way) c.args.least; end = c.end-end.ensures }

pub loop-from-preserved : goal.loop-from-preserved
loop-from-preserved g c =
    let i = c.loop-from.invariant in
    let up = i.up in
    let low = c.in-Some.ensures.1 in
    record {
      up = omega (arith, up, low);
      before = not_more (carries (timeline c.args.self.now.paths.now) (g.S.Sources.byte c.args.self.now.sources.now) c.args.number c.args.way) (leads (timeline c.args.self.now.paths.now) c.args.number c.args.way) (carries_leads (timeline c.args.self.now.paths.now) (g.S.Sources.byte c.args.self.now.sources.now) c.args.number c.args.way) c.args.least c.loop-from.from c.in-Some.beside up c.in-Some.ensures c.is_carried_by.ensures c.if-is_carried_by.false i.before;
      end = i.end;
    }

pub returns-in_default : goal.returns-in_default
returns-in_default g c = least_none (carries (timeline c.args.self.now.paths.now) (g.S.Sources.byte c.args.self.now.sources.now) c.args.number c.args.way) (leads (timeline c.args.self.now.paths.now) c.args.number c.args.way) (carries_leads (timeline c.args.self.now.paths.now) (g.S.Sources.byte c.args.self.now.sources.now) c.args.number c.args.way) c.args.least c.loop-from.from c.in_default.ensures c.loop-from.invariant.before

pub returns-then-is_carried_by : goal.returns-then-is_carried_by
returns-then-is_carried_by g c = least_found (carries (timeline c.args.self.now.paths.now) (g.S.Sources.byte c.args.self.now.sources.now) c.args.number c.args.way) (leads (timeline c.args.self.now.paths.now) c.args.number c.args.way) (carries_leads (timeline c.args.self.now.paths.now) (g.S.Sources.byte c.args.self.now.sources.now) c.args.number c.args.way) c.args.least c.loop-from.from c.in-Some.beside c.loop-from.invariant.up c.in-Some.ensures c.is_carried_by.ensures c.if-is_carried_by.true c.loop-from.invariant.before

pub returns : goal.returns
returns g c =
    let end = c.loop-from.invariant.end in
    let test = c.loop-from-test.false in
    least_past (carries (timeline c.args.self.now.paths.now) (g.S.Sources.byte c.args.self.now.sources.now) c.args.number c.args.way) (leads (timeline c.args.self.now.paths.now) c.args.number c.args.way) (carries_leads (timeline c.args.self.now.paths.now) (g.S.Sources.byte c.args.self.now.sources.now) c.args.number c.args.way) c.args.least c.loop-from.from (timeline c.args.self.now.paths.now).moments.end (leads_inside (timeline c.args.self.now.paths.now) (lawful c.args.self.now.paths.now) c.args.number c.args.way) (omega (arith, end, test)) c.loop-from.invariant.before
