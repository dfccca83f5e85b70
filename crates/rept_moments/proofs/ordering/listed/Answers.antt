use Rattle.std.proofs.Common.{◌≡◌, ◌∙◌, ℕ, ap, arith}
use Rattle.rept_moments.specs.Points.{points_in}
use Rattle.rept_moments.specs.Ordering.{timed_to}
use Rattle.rept_moments.proofs.ordering.listed.Goals as goal

pub returns : goal.returns
returns c =
    let past = c.loop-point-test.false in
    let most = c.loop-point.auto.point-end in
    let count = c.count-point-end.ensures.value in
    let same : c.loop-point.point ≡ points_in c.args.points.now = omega arith in
    c.loop-point.invariant ∙ ap (λ (n : ℕ). timed_to c.args.points.now n) same
