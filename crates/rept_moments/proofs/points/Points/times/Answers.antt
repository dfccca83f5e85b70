use Rattle.std.proofs.Common.{◌≡◌, List, length, ap, ◌∙◌, arith}
use Rattle.rept_steps.specs.Course.{Course}
use Rattle.rept_moments.specs.declared.points.Edges.{Edges}
use Rattle.rept_moments.specs.Points.{points_in}
use Rattle.rept_moments.proofs.Places.{edges_count, times_after, times_before}
use Rattle.rept_moments.proofs.points.Points.times.Goals as goal

pub bounds-edges-side : goal.bounds-edges-side
bounds-edges-side c =
    let count : length c.as_slice-edges.result.now ≡ points_in c.args.self.now = ap (λ (xs : List Edges). length xs) c.as_slice-edges.ensures.value ∙ edges_count _ _ _ _ c.self.invariant ∙ ap (λ (D : Course). points_in D) c.self.view_is in
    let less = c.requires in
    omega arith

pub returns-then-side : goal.returns-then-side
returns-then-side c = times_after _ _ _ _ c.self.invariant c.args.self.now c.args.side _ c.as_slice-edges.result.now c.self.view_is c.as_slice-edges.ensures.value c.requires c.if-side.true

pub returns-else-side : goal.returns-else-side
returns-else-side c = times_before _ _ _ _ c.self.invariant c.args.self.now c.args.side _ c.as_slice-edges.result.now c.self.view_is c.as_slice-edges.ensures.value c.requires c.if-side.false
