use Rattle.rept_steps.specs.Runs.{course_of}
use Rattle.rept_moments.proofs.Places.{row_read}
use Rattle.rept_moments.proofs.points.row_from.Goals as goal

pub returns-in-Some-get : goal.returns-in-Some-get
returns-in-Some-get c = row_read (course_of c.args.run.now) c.all.result.now c.args.place.thread c.args.place.step c.in-Some.rows.now c.rows.result.now c.in-Some-get.row.now c.all.ensures c.in-Some.ensures.lookup.0 c.in-Some.ensures.lookup.1 c.rows.ensures.list c.in-Some-get.ensures.lookup.0 c.in-Some-get.ensures.lookup.1
