use Rattle.std.proofs.Common.{ℕ, sym, arith}
use Rattle.rept_infer.specs.Path.{path_reader, told_in}
use Rattle.rept_found.specs.Inferred.Added.{added_at}
use Rattle.rept_facts.proofs.Counting.{sum_none, sum_next}
use Rattle.rept_found.proofs.inferred.overlay.InferredCrash.values_added.Goals as goal

pub loop-point-init : goal.loop-point-init
loop-point-init g c = record { value = sym (sum_none (added_at (told_in (path_reader g.K.KnownPath.set g.K.KnownPath.byte g.P.PathPremises.premises) c.args.self.now.inferred) (g.F.Findings.shown c.args.self.now.found.now))); few = omega arith; points = c.points-points.ensures.value }

pub loop-point-preserved : goal.loop-point-preserved
loop-point-preserved g c =
    let f : ℕ → ℕ = added_at (told_in (path_reader g.K.KnownPath.set g.K.KnownPath.byte g.P.PathPremises.premises) c.args.self.now.inferred) (g.F.Findings.shown c.args.self.now.found.now) in
    let next = sum_next f c.loop-point.point in
    let was = c.loop-point.invariant.value in
    let here = c.values_at-sum.ensures.value in
    let most = c.loop-point.invariant.few in
    let few = c.values_at-sum.ensures.few in
    record { value = omega (arith, next, was, here); few = omega (arith, most, few); points = c.points-points.ensures.value }
