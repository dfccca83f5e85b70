use Rattle.std.proofs.Common.{◌≡◌, List, length, refl, ap, ◌∙◌, arith}
use Rattle.rept_steps.specs.Course.{Course}
use Rattle.rept_moments.specs.declared.side.PointOfThread.{PointOfThread}
use Rattle.rept_moments.specs.Points.{points_in}
use Rattle.rept_moments.proofs.Places.{places_count, place_here, place_value}
use Rattle.rept_moments.proofs.points.Points.place.Goals as goal

pub bounds-places-point : goal.bounds-places-point
bounds-places-point c =
    let count : length c.as_slice-places.result.now ≡ points_in c.args.self.now = ap (λ (xs : List PointOfThread). length xs) c.as_slice-places.ensures.value ∙ places_count _ _ _ _ c.self.invariant ∙ ap (λ (D : Course). points_in D) c.self.view_is in
    let less = c.requires in
    omega arith

pub returns-clause-row : goal.returns-clause-row
returns-clause-row c = place_here _ _ _ _ c.self.invariant c.args.self.now c.args.point _ _ c.as_slice-places.result.now c.self.view_is c.as_slice-places.ensures.value c.requires refl

pub returns-clause-value : goal.returns-clause-value
returns-clause-value c = place_value _ _ _ _ c.self.invariant c.args.self.now c.args.point _ _ c.as_slice-places.result.now c.self.view_is c.as_slice-places.ensures.value c.requires refl
