use Rattle.std.proofs.Common.{◌∙◌, arith}
use Rattle.rept_span.proofs.Refilling.{first_is}
use Rattle.rept_analysis.proofs.analysis.Analysis.mark_all_late.Goals as goal

pub loop-point-preserved : goal.loop-point-preserved
loop-point-preserved g c = c.mark_late.ensures ∙ c.loop-point.invariant

pub loop-point-smaller : goal.loop-point-smaller
loop-point-smaller g c =
    let next = first_is c.args.points.now c.loop-point.from c.next.result c.in-Some.point c.in-Some.is c.next.ensures.next in
    let inside = next.inside in
    let later = next.later in
    omega (arith, inside, later)
