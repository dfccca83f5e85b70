use Rattle.std.proofs.Common.{ℕ, sym, arith}
use Rattle.rept_reason.specs.Facts.{told}
use Rattle.rept_report.specs.Log.{oldest}
use Rattle.rept_facts.specs.Counts.{known_at}
use Rattle.rept_facts.proofs.Counting.{sum_none, sum_next}
use Rattle.rept_analysis.proofs.analysis.Analysis.told.Goals as goal

pub loop-point-init : goal.loop-point-init
loop-point-init g c = record { value = sym (sum_none (λ (p : ℕ). known_at (told (oldest c.args.self.now.propagation.facts.shown c.args.self.now.propagation.facts.known.log)) p 32)); few = omega arith; count = c.count-count.ensures.value }

pub loop-point-preserved : goal.loop-point-preserved
loop-point-preserved g c =
    let f : ℕ → ℕ = λ (p : ℕ). known_at (told (oldest c.args.self.now.propagation.facts.shown c.args.self.now.propagation.facts.known.log)) p 32 in
    let next = sum_next f c.loop-point.point in
    let was = c.loop-point.invariant.value in
    let here = c.told_at-sum.ensures.value in
    let most = c.loop-point.invariant.few in
    let few = c.told_at-sum.ensures.few in
    record { value = omega (arith, next, was, here); few = omega (arith, most, few); count = c.count-count.ensures.value }
