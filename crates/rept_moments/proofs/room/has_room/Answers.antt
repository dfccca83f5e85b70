use Rattle.std.proofs.Common.{arith, rules}
use Rattle.rept_steps.specs.Runs.{course_of}
use Rattle.rept_moments.proofs.Places.{start_fits, start_next}
use Rattle.rept_moments.proofs.room.has_room.Goals as goal

pub returns-then-points-gt-MOST_POINTS : goal.returns-then-points-gt-MOST_POINTS
returns-then-points-gt-MOST_POINTS c = (
  λ no. let bad : ⊥ = cc in absurd bad,
  λ few.
      let fits = start_fits (course_of c.args.run.now) c.loop-thread.thread c.row_count.result c.loop-thread.points (search rules) c.row_count.ensures.value c.loop-thread.invariant.points few in
      absurd (omega (arith, fits, c.if-points-gt-MOST_POINTS.true)),
)

pub loop-thread-preserved : goal.loop-thread-preserved
loop-thread-preserved c = record {
  points = start_next (course_of c.args.run.now) c.loop-thread.thread c.row_count.result c.loop-thread.points (search rules) c.row_count.ensures.value c.loop-thread.invariant.points;
  few = omega (arith, c.if-points-gt-MOST_POINTS.false);
}
