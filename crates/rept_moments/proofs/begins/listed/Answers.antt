use Rattle.std.proofs.Common.{◌≡◌, ◌∙◌, ℕ, ap, arith}
use Rattle.rept_moments.specs.Begins.{firsts_to}
use Rattle.rept_moments.specs.Points.{points_in}
use Rattle.rept_moments.proofs.Beginning.{firsts_more}
use Rattle.rept_moments.proofs.begins.listed.Goals as goal

pub loop-point-preserved : goal.loop-point-preserved
loop-point-preserved c = firsts_more c.args.points.now c.loop-point.point c.loop-point.list.items c.add_row.new.list.items c.loop-point.invariant c.in_ok-add_row.ensures

pub returns : goal.returns
returns c =
    let past = c.loop-point-test.false in
    let most = c.loop-point.auto.point-end in
    let count = c.count-point-end.ensures.value in
    let same : c.loop-point.point ≡ points_in c.args.points.now = omega arith in
    c.loop-point.invariant ∙ ap (λ (n : ℕ). firsts_to c.args.points.now n) same
