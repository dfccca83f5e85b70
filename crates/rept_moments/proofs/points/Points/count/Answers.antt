use Rattle.std.proofs.Common.{◌≡◌, ◌≤◌, List, length, ap, ◌∙◌, arith}
use Rattle.rept_steps.specs.Course.{Course}
use Rattle.rept_moments.specs.declared.side.PointOfThread.{PointOfThread}
use Rattle.rept_moments.specs.Points.{points_in}
use Rattle.rept_moments.proofs.Places.{places_count, places_few}
use Rattle.rept_moments.proofs.points.Points.count.Goals as goal

pub overflow_cast-result : goal.overflow_cast-result
overflow_cast-result c =
    let few : length c.self.inside.places.items ≤ 66560 = places_few _ _ _ _ c.self.invariant in
    let same : length c.as_slice.result.now ≡ length c.self.inside.places.items = ap (λ (xs : List PointOfThread). length xs) c.as_slice.ensures.value in
    omega arith

pub returns-clause-value : goal.returns-clause-value
returns-clause-value c = ap (λ (xs : List PointOfThread). length xs) c.as_slice.ensures.value ∙ places_count _ _ _ _ c.self.invariant ∙ ap (λ (D : Course). points_in D) c.self.view_is

pub returns-clause-few : goal.returns-clause-few
returns-clause-few c =
    let few : length c.self.inside.places.items ≤ 66560 = places_few _ _ _ _ c.self.invariant in
    let same : length c.as_slice.result.now ≡ length c.self.inside.places.items = ap (λ (xs : List PointOfThread). length xs) c.as_slice.ensures.value in
    omega arith
