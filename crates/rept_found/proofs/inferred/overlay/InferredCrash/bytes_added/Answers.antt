use Rattle.std.proofs.Common.{ℕ, sym, arith}
use Rattle.rept_infer.specs.Path.{path_reader, told_in}
use Rattle.rept_found.specs.Inferred.Added.{step_added}
use Rattle.rept_facts.proofs.Counting.{sum_none, sum_next}
use Rattle.rept_found.proofs.inferred.overlay.InferredCrash.bytes_added.Goals as goal

pub loop-index-init : goal.loop-index-init
loop-index-init g c = record { value = sym (sum_none (step_added (told_in (path_reader g.K.KnownPath.set g.K.KnownPath.byte g.P.PathPremises.premises) c.args.self.now.inferred) (g.F.Findings.shown c.args.self.now.found.now))); few = omega arith; steps = c.steps-steps.ensures.value }

pub loop-index-preserved : goal.loop-index-preserved
loop-index-preserved g c =
    let f : ℕ → ℕ = step_added (told_in (path_reader g.K.KnownPath.set g.K.KnownPath.byte g.P.PathPremises.premises) c.args.self.now.inferred) (g.F.Findings.shown c.args.self.now.found.now) in
    let next = sum_next f c.loop-index.index in
    let was = c.loop-index.invariant.value in
    let here = c.step_bytes-sum.ensures.value in
    let most = c.loop-index.invariant.few in
    let few = c.step_bytes-sum.ensures.few in
    record { value = omega (arith, next, was, here); few = omega (arith, most, few); steps = c.steps-steps.ensures.value }
