use Rattle.std.proofs.Common.{arith, rules}
use Rattle.rept_steps.specs.Runs.{course_of}
use Rattle.rept_moments.proofs.Places.{start_next, start_fits, starts_more}
use Rattle.rept_moments.proofs.points.starts.Goals as goal

pub overflow_add-point-in-loop-thread : goal.overflow_add-point-in-loop-thread
overflow_add-point-in-loop-thread c =
    let fits = start_fits (course_of c.args.run.now) c.loop-thread.thread c.row_count-rows.result c.loop-thread.point (search rules) c.row_count-rows.ensures.value c.loop-thread.invariant.point c.requires in
    omega arith

pub loop-thread-preserved : goal.loop-thread-preserved
loop-thread-preserved c = record {
  starts = starts_more (course_of c.args.run.now) c.loop-thread.thread c.loop-thread.starts.items c.push.new.self.items c.loop-thread.point c.loop-thread.invariant.starts c.loop-thread.invariant.point c.in_ok-push.ensures.items;
  point = start_next (course_of c.args.run.now) c.loop-thread.thread c.row_count-rows.result c.loop-thread.point (search rules) c.row_count-rows.ensures.value c.loop-thread.invariant.point;
}
