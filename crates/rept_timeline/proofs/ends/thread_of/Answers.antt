use Rattle.std.proofs.Common.{◌≡◌, List, length, rules, sym, ap, ◌∙◌, arith}
use Rattle.rept_order.specs.Legs.{points_before}
use Rattle.rept_steps.specs.declared.threads.ThreadRows.{ThreadRows}
use Rattle.rept_steps.specs.Runs.{course_of}
use Rattle.rept_timeline.proofs.Enders.{points_fit, points_more, thread_past, thread_within}
use Rattle.rept_timeline.proofs.ends.thread_of.Goals as goal

pub overflow_add-first : goal.overflow_add-first
overflow_add-first c =
    let fit = points_fit (course_of c.args.run.now) c.loop-thread.thread c.loop-thread.first c.row_count-rows.result (search rules) c.row_count-rows.ensures.value c.loop-thread.invariant.first in
    let few = c.requires in
    omega arith

pub returns-then-point-first : goal.returns-then-point-first
returns-then-point-first c =
    let first = c.loop-thread.invariant.first in
    let low = c.loop-thread.invariant.low in
    let rows = c.row_count-rows.ensures.value in
    let high = c.if-point-first.true in
    sym (thread_within (course_of c.args.run.now) c.loop-thread.thread c.args.point (search rules) (omega arith) (omega arith))

pub loop-thread-preserved : goal.loop-thread-preserved
loop-thread-preserved c = record {
  first = points_more (course_of c.args.run.now) c.loop-thread.thread c.loop-thread.first c.row_count-rows.result (search rules) c.row_count-rows.ensures.value c.loop-thread.invariant.first;
  low = let past = c.if-point-first.false in omega arith;
}

pub returns : goal.returns
returns c =
    let count : length c.all-thread-end.result.now ≡ length c.args.run.now.threads = ap (λ (xs : List ThreadRows). length xs) c.all-thread-end.ensures in
    let most = c.loop-thread.auto.thread-end in
    let least = c.loop-thread-test.false in
    let at : c.loop-thread.thread ≡ length c.args.run.now.threads = omega arith in
    let here : c.loop-thread.first ≡ points_before c.args.run.now.threads (length c.args.run.now.threads) = c.loop-thread.invariant.first ∙ ap (points_before c.args.run.now.threads) at in
    sym (thread_past (course_of c.args.run.now) c.args.point (let low = c.loop-thread.invariant.low in omega arith))
