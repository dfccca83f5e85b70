use Rattle.std.proofs.Common.{◌≡◌, ℕ, List, length, ap, ◌∙◌, arith}
use Rattle.rept_steps.specs.Course.{Course}
use Rattle.rept_moments.proofs.Places.{by_point_length, few_threads}
use Rattle.rept_moments.proofs.points.Points.threads.Goals as goal

pub overflow_cast-result : goal.overflow_cast-result
overflow_cast-result c =
    let count : length c.as_slice-starts.result.now ≡ length c.args.self.now.threads = ap (λ (xs : List ℕ). length xs) (c.as_slice-starts.ensures.value ∙ c.self.invariant.starts) ∙ by_point_length _ _ ∙ ap (λ (D : Course). length D.threads) c.self.view_is in
    let same : length c.self.inside.run.now.threads ≡ length c.args.self.now.threads = ap (λ (D : Course). length D.threads) c.self.view_is in
    let few = c.self.invariant.few in
    let most = few_threads c.self.inside.run.now.threads in
    omega arith

pub returns-clause-value : goal.returns-clause-value
returns-clause-value c = ap (λ (xs : List ℕ). length xs) (c.as_slice-starts.ensures.value ∙ c.self.invariant.starts) ∙ by_point_length _ _ ∙ ap (λ (D : Course). length D.threads) c.self.view_is
