use Rattle.std.proofs.Common.{arith}
use Rattle.rept_streams.proofs.RunsLemmas.Adding.{no_room, rows_more}
use Rattle.rept_streams.proofs.runs.calls.are_few.Goals as goal

pub returns-then-taken-room : goal.returns-then-taken-room
returns-then-taken-room c =
    let many = c.len-taken.ensures.value in
    let more = c.if-taken-room.true in
    no_room c.args.most c.args.threads.now c.loop-thread.thread-index c.loop-thread.room c.thread-item.result c.loop-thread-test.true c.thread-item.is c.loop-thread.invariant (omega (arith, many, more))

pub loop-thread-preserved : goal.loop-thread-preserved
loop-thread-preserved c =
    let rows = (rows_more c.args.threads.now c.loop-thread.thread-index c.thread-item.result c.loop-thread-test.true c.thread-item.is).0 in
    let many = c.len-taken.ensures.value in
    let left = c.loop-thread.invariant in
    let room = c.if-taken-room.false in
    omega (arith, rows, many, left, room)
