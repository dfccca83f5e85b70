use Rattle.std.proofs.Common.{◌∙◌, arith}
use Rattle.rept_span.proofs.Refilling.{first_is, none_is, none_left, refilled_to, refilled_more, refilled_all}
use Rattle.rept_span.proofs.spans.Spans.fill_since.Goals as goal

pub returns-in_default-clause-filled : goal.returns-in_default-clause-filled
returns-in_default-clause-filled g c =
    let none = none_is c.loop-point.changes.points c.loop-point.from c.next.result c.in_default.not-Some c.next.ensures.next in
    refilled_all g.W.Partial.sets g.W.Transfer.moves (g.L.Trail.legs c.args.trail.now) (g.F.RegFacts.knows c.args.facts.now) c.args.self.now c.args.changes.now.points c.requires.rows c.requires.reads c.requires.former c.loop-point.self c.loop-point.changes.points c.loop-point.from c.loop-point.invariant none

pub returns-in_default-clause-some : goal.returns-in_default-clause-some
returns-in_default-clause-some g c =
    let none = none_is c.loop-point.changes.points c.loop-point.from c.next.result c.in_default.not-Some c.next.ensures.next in
    let filled = refilled_all g.W.Partial.sets g.W.Transfer.moves (g.L.Trail.legs c.args.trail.now) (g.F.RegFacts.knows c.args.facts.now) c.args.self.now c.args.changes.now.points c.requires.rows c.requires.reads c.requires.former c.loop-point.self c.loop-point.changes.points c.loop-point.from c.loop-point.invariant none in
    let points = c.loop-point.invariant.points in
    let rows = c.requires.rows in
    λ p r early small e. c.points-points.ensures.whole p r (omega arith) small (filled p early r small ∙ e)

pub refill_point-requires-clause-filled : goal.refill_point-requires-clause-filled
refill_point-requires-clause-filled g c =
    let next = first_is c.loop-point.changes.points c.loop-point.from c.next.result c.in-Some.point c.in-Some.is c.next.ensures.next in
    let inside = next.inside in
    let long = c.loop-point.invariant.long in
    let marks = c.requires.marks in
    refilled_to g.W.Partial.sets g.W.Transfer.moves (g.L.Trail.legs c.args.trail.now) (g.F.RegFacts.knows c.args.facts.now) c.args.self.now c.args.changes.now.points c.requires.rows c.requires.reads c.requires.former c.loop-point.self c.loop-point.changes.points c.loop-point.from c.in-Some.point c.loop-point.invariant next.first (omega arith)

pub returns-in-Some-refill_point-clause-empty : goal.returns-in-Some-refill_point-clause-empty
returns-in-Some-refill_point-clause-empty g c = c.refill_point.ensures.empty c.in-Some-refill_point.reg c.in-Some-refill_point.is

pub returns-in-Some-refill_point-clause-before : goal.returns-in-Some-refill_point-clause-before
returns-in-Some-refill_point-clause-before g c =
    let next = first_is c.loop-point.changes.points c.loop-point.from c.next.result c.in-Some.point c.in-Some.is c.next.ensures.next in
    let inside = next.inside in
    let long = c.loop-point.invariant.long in
    let marks = c.requires.marks in
    let filled = refilled_to g.W.Partial.sets g.W.Transfer.moves (g.L.Trail.legs c.args.trail.now) (g.F.RegFacts.knows c.args.facts.now) c.args.self.now c.args.changes.now.points c.requires.rows c.requires.reads c.requires.former c.loop-point.self c.loop-point.changes.points c.loop-point.from c.in-Some.point c.loop-point.invariant next.first (omega arith) in
    λ q below r small. c.clear.ensures.before q r below small ∙ c.refill_point.ensures.only.elsewhere q r (λ e. omega arith) small ∙ filled q below r small

pub loop-point-preserved : goal.loop-point-preserved
loop-point-preserved g c =
    let next = first_is c.loop-point.changes.points c.loop-point.from c.next.result c.in-Some.point c.in-Some.is c.next.ensures.next in
    let inside = next.inside in
    let long = c.loop-point.invariant.long in
    let marks = c.requires.marks in
    let none = none_left c.refill_point.result c.in_default-refill_point.not-Some in
    let filled = refilled_to g.W.Partial.sets g.W.Transfer.moves (g.L.Trail.legs c.args.trail.now) (g.F.RegFacts.knows c.args.facts.now) c.args.self.now c.args.changes.now.points c.requires.rows c.requires.reads c.requires.former c.loop-point.self c.loop-point.changes.points c.loop-point.from c.in-Some.point c.loop-point.invariant next.first (omega arith) in
    refilled_more g.W.Partial.sets g.W.Transfer.moves (g.L.Trail.legs c.args.trail.now) (g.F.RegFacts.knows c.args.facts.now) c.args.self.now c.args.changes.now.points c.requires.rows c.requires.reads c.requires.former c.loop-point.self c.refill_point.new.self c.loop-point.changes.points c.refill_point.new.changes.points c.loop-point.from c.in-Some.point c.loop-point.invariant next (omega arith) filled c.refill_point.ensures.only (c.refill_point.ensures.filled none) c.refill_point.ensures.marks c.refill_point.ensures.kept (c.refill_point.ensures.next none)
