use Rattle.std.proofs.Common.{◌≡◌, ◌∙◌, ℕ, ap, arith}
use Rattle.rept_moments.specs.Merging.{merged_at}
use Rattle.rept_moments.specs.Points.{by_point, points_in}
use Rattle.rept_moments.proofs.Places.{by_point_more}
use Rattle.rept_moments.proofs.merging.merged.Goals as goal

pub loop-point-preserved : goal.loop-point-preserved
loop-point-preserved c = by_point_more (merged_at c.args.points.now) c.loop-point.point c.loop-point.merged.items c.push.new.self.items c.is_merged_at-is.result c.loop-point.invariant c.is_merged_at-is.ensures c.in_ok-push.ensures.items

pub returns : goal.returns
returns c =
    let past = c.loop-point-test.false in
    let most = c.loop-point.auto.point-end in
    let count = c.count-point-end.ensures.value in
    let same : c.loop-point.point ≡ points_in c.args.points.now = omega arith in
    c.loop-point.invariant ∙ ap (λ (n : ℕ). by_point (merged_at c.args.points.now) n) same
