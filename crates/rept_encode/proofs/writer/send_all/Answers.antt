use Rattle.std.proofs.Common.{◌-◌, length, arith}
use Rattle.rept_encode.specs.State.{sent_rows}
use Rattle.rept_encode.proofs.Sending.{get_at, aligned_at, begun_stood, stood_sent, stood_all}
use Rattle.rept_encode.proofs.writer.send_all.Goals as goal

pub loop-i-init : goal.loop-i-init
loop-i-init c =
    let some = c.requires.given.walkable.some in
    let first = get_at c.args.rows.now 0 c.index-rows-0.result c.index-rows-0.is some in
    stood_sent (sent_rows c.args.halves c.args.rows.now) 0 c.begin-sender.result (begun_stood (sent_rows c.args.halves c.args.rows.now) c.begin-sender.result c.index-rows-0.result first (aligned_at (sent_rows c.args.halves c.args.rows.now) 0 c.index-rows-0.result c.requires.given first) c.begin-sender.ensures)

pub returns-clause-tells : goal.returns-clause-tells
returns-clause-tells c = stood_all c.args.halves c.args.rows.now (length c.args.rows.now - 1) _ c.finish.new.sender c.requires.given c.in_ok-finish.ensures (let some = c.requires.given.walkable.some in omega arith)
