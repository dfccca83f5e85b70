use Rattle.rept_steps.specs.Runs.{course_of}
use Rattle.rept_moments.proofs.Places.{rows_count}
use Rattle.rept_timeline.proofs.small.row_count.Goals as goal

pub returns-clause-value : goal.returns-clause-value
returns-clause-value c = rows_count (course_of c.args.run.now) c.args.thread c.len.result c.all.result.now c.index-all-thread.result c.all.ensures c.requires c.len.ensures.value
