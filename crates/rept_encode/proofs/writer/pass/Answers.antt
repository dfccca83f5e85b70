use Rattle.std.proofs.Common.{◌≡◌, ◌+◌, arith, inl, inr, true, false}
use Rattle.rept_path.specs.Code.{flow_of, jumps_far}
use Rattle.rept_encode.specs.State.{sent_rows}
use Rattle.rept_encode.proofs.Sending.{get_at, calls_is, sent_restart, sent_jump, sent_call, sent_map, sent_keep}
use Rattle.rept_encode.proofs.writer.pass.Goals as goal

pub returns-in_ok-restart : goal.returns-in_ok-restart
returns-in_ok-restart c =
    let w = c.requires.within in
    let here = get_at c.args.rows.now c.args.i c.index-rows-i.result c.index-rows-i.is (omega arith) in
    let next = get_at c.args.rows.now (c.args.i + 1) c.index-rows-i-2.result c.index-rows-i-2.is w in
    sent_restart (sent_rows c.args.halves c.args.rows.now) c.requires.given c.args.i c.index-rows-i.result c.index-rows-i-2.result here next c.args.sender.now c.restart.new.self c.requires.sent (calls_is (sent_rows c.args.halves c.args.rows.now) c.args.i c.index-rows-i.result true c.requires.given here c.if-here.true) c.in_ok-restart.ensures

pub returns-in_ok-send : goal.returns-in_ok-send
returns-in_ok-send c =
    let w = c.requires.within in
    let here = get_at c.args.rows.now c.args.i c.index-rows-i.result c.index-rows-i.is (omega arith) in
    let next = get_at c.args.rows.now (c.args.i + 1) c.index-rows-i-2.result c.index-rows-i-2.is w in
    let far : jumps_far (flow_of c.index-rows-i.result.instr) ≡ true = (let e = c.jumps_far.ensures in let f = c.if-jumps_far.true in cc) in
    sent_jump (sent_rows c.args.halves c.args.rows.now) c.requires.given c.args.i c.index-rows-i.result c.index-rows-i-2.result here next c.args.sender.now c.send.new.self c.requires.sent far c.in_ok-send.ensures

pub returns-in_ok-send-2 : goal.returns-in_ok-send-2
returns-in_ok-send-2 c =
    let w = c.requires.within in
    let here = get_at c.args.rows.now c.args.i c.index-rows-i.result c.index-rows-i.is (omega arith) in
    let next = get_at c.args.rows.now (c.args.i + 1) c.index-rows-i-2.result c.index-rows-i-2.is w in
    let near : jumps_far (flow_of c.index-rows-i.result.instr) ≡ false = (let e = c.jumps_far.ensures in let f = c.if-jumps_far.false in cc) in
    let plain = calls_is (sent_rows c.args.halves c.args.rows.now) c.args.i c.index-rows-i.result false c.requires.given here c.if-here.false in
    let call = calls_is (sent_rows c.args.halves c.args.rows.now) (c.args.i + 1) c.index-rows-i-2.result true c.requires.given next c.if-next.true in
    sent_call (sent_rows c.args.halves c.args.rows.now) c.requires.given c.args.i c.index-rows-i.result c.index-rows-i-2.result here next c.args.sender.now c.send-then-next.new.self c.requires.sent plain near call c.in_ok-send-2.ensures

pub returns-in_ok-keep : goal.returns-in_ok-keep
returns-in_ok-keep c =
    let w = c.requires.within in
    let here = get_at c.args.rows.now c.args.i c.index-rows-i.result c.index-rows-i.is (omega arith) in
    let next = get_at c.args.rows.now (c.args.i + 1) c.index-rows-i-2.result c.index-rows-i-2.is w in
    let near : jumps_far (flow_of c.index-rows-i.result.instr) ≡ false = (let e = c.jumps_far.ensures in let f = c.if-jumps_far.false in cc) in
    let plain = calls_is (sent_rows c.args.halves c.args.rows.now) c.args.i c.index-rows-i.result false c.requires.given here c.if-here.false in
    let straight = calls_is (sent_rows c.args.halves c.args.rows.now) (c.args.i + 1) c.index-rows-i-2.result false c.requires.given next c.if-next.false in
    elim c.in_ok-keep.ensures [
      | inl x ↦ sent_keep (sent_rows c.args.halves c.args.rows.now) c.requires.given c.args.i c.index-rows-i.result c.index-rows-i-2.result here next c.args.sender.now c.keep.new.self c.requires.sent plain near straight x
      | inr x ↦ sent_map (sent_rows c.args.halves c.args.rows.now) c.requires.given c.args.i c.index-rows-i.result c.index-rows-i-2.result here next c.args.sender.now c.keep.new.self c.requires.sent plain near x
    ]
