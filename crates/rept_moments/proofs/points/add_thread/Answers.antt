use Rattle.std.proofs.Common.{arith}
use Rattle.rept_steps.specs.Runs.{course_of}
use Rattle.rept_moments.proofs.Places.{add_place, all_added}
use Rattle.rept_moments.proofs.points.add_thread.Goals as goal

pub loop-step-preserved : goal.loop-step-preserved
loop-step-preserved c =
    let count = c.row_count-rows.ensures.value in
    let less = c.loop-step-test.true in
    add_place (course_of c.args.run.now) c.args.thread c.loop-step.step c.loop-step.places.items c.push.new.self.items c.requires.inside (omega arith) c.loop-step.invariant c.in_ok-push.ensures.items

pub returns : goal.returns
returns c =
    let past = c.loop-step-test.false in
    let most = c.loop-step.auto.step-end in
    all_added (course_of c.args.run.now) c.args.thread c.row_count-rows.result c.loop-step.step c.loop-step.places.items c.requires.inside c.row_count-rows.ensures.value (omega arith) c.loop-step.invariant
