use Rattle.std.proofs.Common.{◌≡◌, ◌∙◌, ℕ, Option, None, ap, refl, arith}
use Rattle.rept_moments.specs.Points.{by_point}
use Rattle.rept_moments.proofs.Places.{by_point_more}
use Rattle.rept_moments.proofs.numbers.blank.Goals as goal

pub loop-point-preserved : goal.loop-point-preserved
loop-point-preserved c = by_point_more {A = Option ℕ} (λ (g : ℕ). None) c.loop-point._point c.loop-point.list.items c.push.new.self.items None c.loop-point.invariant refl c.in_ok-push.ensures.items

pub returns : goal.returns
returns c =
    let past = c.loop-point-test.false in
    let most = c.loop-point.auto._point-end in
    let same : c.loop-point._point ≡ c.args.points = omega arith in
    c.loop-point.invariant ∙ ap (λ (n : ℕ). by_point {A = Option ℕ} (λ (g : ℕ). None) n) same
