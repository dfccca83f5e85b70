use Rattle.std.proofs.Common.{true, sym, subst, arith}
use Rattle.rept_isa.specs.declared.row.StepRow.{StepRow}
use Rattle.rept_encode.specs.State.{IsReported, sent_rows}
use Rattle.rept_encode.proofs.Sending.{get_at, sent_base, sent_there, stood_more}
use Rattle.rept_encode.proofs.writer.send_base.Goals as goal

pub returns-then-base-sender : goal.returns-then-base-sender
returns-then-base-sender c =
    let last = c.requires.last in
    let s = c.requires.sent in
    stood_more (sent_rows c.args.halves c.args.rows.now) c.args.sender.now.base _ _ c.args.sender.now (sent_there (sent_rows c.args.halves c.args.rows.now) c.args.last c.args.sender.now c.requires.given s c.if-base-sender.true) (omega arith)

pub returns : goal.returns
returns c =
    let last = c.requires.last in
    let s = c.requires.sent in
    let below = s.below in
    let row = get_at c.args.rows.now c.args.sender.now.base c.index-rows-base.result c.index-rows-base.is (omega arith) in
    stood_more (sent_rows c.args.halves c.args.rows.now) c.args.sender.now.base _ _ c.report.new.self (sent_base (sent_rows c.args.halves c.args.rows.now) c.args.last c.args.sender.now c.report.new.self c.index-rows-base.result c.requires.given s c.if-base-sender.false row (subst (λ (x : StepRow). IsReported c.args.halves c.args.sender.now c.args.sender.now.bits c.report.new.self x.at true c.args.sender.now.base) (sym c.index-rows-base.is) c.in_ok-report.ensures)) (omega arith)
