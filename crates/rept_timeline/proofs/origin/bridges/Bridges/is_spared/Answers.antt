use Rattle.rept_timeline.specs.Paths.{timeline}
use Rattle.std.proofs.Common.{sym, ◌∙◌, arith}
use Rattle.rept_report.proofs.OriginLemmas.Carrying.{spared_first, spared_more, none_may_act, one_writes, all_spared}
use Rattle.rept_timeline.proofs.origin.bridges.Bridges.is_spared.Goals as goal

pub loop-least-init : goal.loop-least-init
loop-least-init g c = record { before = spared_first (timeline c.args.self.now.paths.now) (g.S.Sources.byte c.args.self.now.sources.now) c.args.number c.args.next; count = c.last_point-count.ensures }

pub loop-least-preserved : goal.loop-least-preserved
loop-least-preserved g c = record {
  before = spared_more (timeline c.args.self.now.paths.now) (g.S.Sources.byte c.args.self.now.sources.now) c.args.number c.args.next c.loop-least.least c.in-Some.row c.in-Some.ensures (sym c.may_write.ensures ∙ c.if-may_write.false) c.loop-least.invariant.before;
  count = c.loop-least.invariant.count;
}

pub returns-in_default : goal.returns-in_default
returns-in_default g c = none_may_act (timeline c.args.self.now.paths.now) (g.S.Sources.byte c.args.self.now.sources.now) c.args.number c.args.next c.loop-least.least c.in_default.ensures c.loop-least.invariant.before

pub returns-then-may_write : goal.returns-then-may_write
returns-then-may_write g c = one_writes (timeline c.args.self.now.paths.now) (g.S.Sources.byte c.args.self.now.sources.now) c.args.number c.args.next c.loop-least.least c.in-Some.row c.in-Some.ensures (sym c.may_write.ensures ∙ c.if-may_write.true)

pub returns : goal.returns
returns g c =
    let count = c.loop-least.invariant.count in
    let test = c.loop-least-test.false in
    all_spared (timeline c.args.self.now.paths.now) (g.S.Sources.byte c.args.self.now.sources.now) c.args.number c.args.next c.loop-least.least (omega (arith, count, test)) c.loop-least.invariant.before
