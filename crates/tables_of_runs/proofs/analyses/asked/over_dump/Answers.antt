use Rattle.rept_steps.specs.Runs.{course_of}
use Rattle.rept_timeline.proofs.Counting.{few_points}
use Rattle.tables_of_runs.proofs.analyses.asked.over_dump.Goals as goal

pub new-requires-2-clause-few : goal.new-requires-2-clause-few
new-requires-2-clause-few g c = few_points (course_of c.args.run.now) (c.is_small.ensures.0 c.if-not-is_small.false)
