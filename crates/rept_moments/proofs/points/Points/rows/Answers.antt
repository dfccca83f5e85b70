use Rattle.std.proofs.Common.{◌≤◌, length, subst, ap, ◌∙◌}
use Rattle.rept_steps.specs.Course.{Course, rows_of}
use Rattle.rept_moments.specs.Points.{points_in}
use Rattle.rept_moments.proofs.Adding.{rows_inside}
use Rattle.rept_moments.proofs.points.Points.rows.Goals as goal

pub returns-clause-inside : goal.returns-clause-inside
returns-clause-inside c = rows_inside c.args.self.now c.args.thread c.row_count.result c.requires (c.row_count.ensures.value ∙ ap (λ (D : Course). length (rows_of D c.args.thread)) c.self.view_is)

pub returns-clause-few : goal.returns-clause-few
returns-clause-few c = subst (λ (D : Course). points_in D ≤ 66560) c.self.view_is c.self.invariant.few
