use Rattle.std.proofs.Common.{◌≡◌, subst, refl, true}
use Rattle.rept_versions.specs.OnLine.{store, LineParts}
use Rattle.rept_versions.specs.Facts.{change, StopsAtValue}
use Rattle.rept_versions.proofs.Points.{More, Told, carried_more, carried_stop}
use Rattle.rept_versions.proofs.span_facts.SpanFactsByteFacts.carry.Goals as goal

pub returns-in-More : goal.returns-in-More
returns-in-More c =
    let new : LineParts = record { line = c.carry.new.self; row = c.self.inside.row } in
    let old : LineParts = record { line = c.self.inside.line; row = c.self.inside.row } in
    subst (λ n. Told n c.args.from c.args.a (λ v. More n new c.args.a c.args.from c.args.to v)) c.self.view_is
    (carried_more old new refl c.args.a c.args.from c.args.to _ _ c.ranges.from.fits c.ranges.to.fits c.key.ensures c.key-2.ensures c.in-More.ensures.moves)

pub returns-in-Stop : goal.returns-in-Stop
returns-in-Stop c =
    let new : LineParts = record { line = c.carry.new.self; row = c.self.inside.row } in
    let old : LineParts = record { line = c.self.inside.line; row = c.self.inside.row } in
    subst (λ n. Told n c.args.from c.args.a (λ v. (c.in-Stop.v ≡ v) × StopsAtValue (change true (store n) (store new)) (record { address = c.args.a; from = c.args.from; to = c.args.to; value = v }) c.point_of.result c.in-Stop.w)) c.self.view_is
    (carried_stop old new refl c.args.a c.args.from c.args.to _ _ c.ranges.from.fits c.ranges.to.fits c.key.ensures c.key-2.ensures c.in-Stop.k c.in-Stop.v c.in-Stop.w c.point_of.result c.point_of.ensures c.in-Stop.ensures.moves)
