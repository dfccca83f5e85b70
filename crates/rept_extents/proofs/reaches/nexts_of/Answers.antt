use Rattle.std.proofs.Common.{ap, ◌∙◌}
use Rattle.rept_moments.specs.declared.course.NumberedRun.{NumberedRun}
use Rattle.rept_moments.specs.Courses.{seen_in}
use Rattle.rept_extents.proofs.Going.{nexts_lie}
use Rattle.rept_extents.proofs.reaches.nexts_of.Goals as goal

pub returns : goal.returns
returns c = nexts_lie (seen_in c.args.ways.now).legs (seen_in c.args.ways.now).moments c.args.number c.end-end.result c.in-Some.least c.in-Some-next_to.most c.course-course.ensures.laws (c.end-end.ensures ∙ ap (λ (x : NumberedRun). (seen_in x).moments.end) c.course-course.ensures.value) c.in-Some.ensures c.in-Some-next_to.ensures
