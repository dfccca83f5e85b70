use Rattle.std.proofs.Common.{◌≡◌, Bool, List, length, refl, ap, ◌∙◌, arith}
use Rattle.rept_steps.specs.Course.{Course}
use Rattle.rept_moments.specs.Points.{points_in}
use Rattle.rept_moments.specs.Merging.{merged_at}
use Rattle.rept_moments.proofs.Places.{by_point_length}
use Rattle.rept_moments.proofs.Told.{merged_here}
use Rattle.rept_moments.proofs.many.Many.is_merged.Goals as goal

pub bounds-merged-row : goal.bounds-merged-row
bounds-merged-row c =
    let count : length c.as_slice-merged.result.now ≡ points_in c.args.self.now = ap (λ (xs : List Bool). length xs) (c.as_slice-merged.ensures.value ∙ c.self.invariant.table) ∙ by_point_length (merged_at c.self.inside.points) (points_in c.self.inside.points) ∙ ap (λ (D : Course). points_in D) c.self.view_is in
    let less = c.requires in
    omega arith

pub returns-clause-value : goal.returns-clause-value
returns-clause-value c = merged_here c.self.inside.points c.args.self.now c.self.inside.merged.items c.as_slice-merged.result.now c.args.row _ _ c.self.view_is c.self.invariant.table c.as_slice-merged.ensures.value c.requires refl
