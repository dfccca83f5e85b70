use Rattle.std.proofs.Common.{◌≡◌, ℕ, List, length, ap, ◌∙◌, arith}
use Rattle.rept_steps.specs.Course.{Course}
use Rattle.rept_moments.proofs.Places.{by_point_length, start_at}
use Rattle.rept_moments.proofs.points.Points.first.Goals as goal

pub bounds-starts-thread : goal.bounds-starts-thread
bounds-starts-thread c =
    let count : length c.as_slice-starts.result.now ≡ length c.args.self.now.threads = ap (λ (xs : List ℕ). length xs) (c.as_slice-starts.ensures.value ∙ c.self.invariant.starts) ∙ by_point_length _ _ ∙ ap (λ (D : Course). length D.threads) c.self.view_is in
    let less = c.requires in
    omega arith

pub returns : goal.returns
returns c = start_at _ c.args.self.now c.args.thread c.as_slice-starts.result.now _ c.self.view_is (c.as_slice-starts.ensures.value ∙ c.self.invariant.starts) c.requires
