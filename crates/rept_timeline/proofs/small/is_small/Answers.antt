use Rattle.std.proofs.Common.{◌≡◌, ◌+◌, ◌<◌, length, refl, arith, rules}
use Rattle.rept_steps.specs.Runs.{course_of}
use Rattle.rept_timeline.proofs.Counting.{rows_next, rows_least, rows_all}
use Rattle.rept_timeline.proofs.small.is_small.Goals as goal

pub returns-then-rows-gt-MOST_ROWS : goal.returns-then-rows-gt-MOST_ROWS
returns-then-rows-gt-MOST_ROWS c = (
  λ no. let bad : ⊥ = cc in absurd bad,
  λ small.
      let below : c.loop-thread.thread < length c.args.run.now.threads = search rules in
      let next = rows_next (course_of c.args.run.now) c.loop-thread.thread c.row_count-rows.result c.loop-thread.rows below c.row_count-rows.ensures.value c.loop-thread.invariant.points in
      let least = rows_least (course_of c.args.run.now) (c.loop-thread.thread + 1) (c.loop-thread.rows + c.row_count-rows.result) (omega (arith, below)) next in
      absurd (omega (arith, least, small.rows, c.if-rows-gt-MOST_ROWS.true)),
)

pub loop-thread-preserved : goal.loop-thread-preserved
loop-thread-preserved c = record {
  points = rows_next (course_of c.args.run.now) c.loop-thread.thread c.row_count-rows.result c.loop-thread.rows (search rules) c.row_count-rows.ensures.value c.loop-thread.invariant.points;
  few = omega (arith, c.if-rows-gt-MOST_ROWS.false);
}

pub returns : goal.returns
returns c =
    let end : c.loop-thread.thread ≡ length c.args.run.now.threads = search rules in
    let all = rows_all (course_of c.args.run.now) c.loop-thread.thread c.loop-thread.rows end c.loop-thread.invariant.points in (
      λ yes. record {
        rows = omega (arith, all, c.loop-thread.invariant.few);
        threads = search rules;
      },
      λ small. refl,
    )
