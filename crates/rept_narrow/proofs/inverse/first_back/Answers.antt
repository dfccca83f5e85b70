use Rattle.std.proofs.Common.{◌≡◌, ◌≢◌, ◌≤◌, length, ◌∙◌, arith}
use Rattle.std.proofs.lemmas.Result.{on_ok_weaker, on_err_weaker}
use Rattle.rept_narrow.proofs.Sentences.{inside_rows}
use Rattle.rept_narrow.proofs.Undoing.{first_sound}
use Rattle.rept_narrow.proofs.inverse.first_back.Goals as goal

pub returns-else-number-eq0-clause-keeps : goal.returns-else-number-eq0-clause-keeps
returns-else-number-eq0-clause-keeps c =
    let named : c.in-Op.rd ≢ 0 = λ e. c.if-number-eq0.false (c.number.ensures.value ∙ e) in
    on_ok_weaker c.narrow.result (λ keeps story at run h. keeps story run h (first_sound story c.args.table.now c.args.index c.in-Op.rd c.in-Op.rs1 c.in-Op.rs2 c.in-Op.op c.args.row.now c.at-made.result c.at-known.result c.first_operand.result at c.in-Op.is named c.at-made.ensures.value c.at-known.ensures.value c.first_operand.ensures run h)) c.narrow.ensures.keeps

pub returns-else-number-eq0-clause-refuses : goal.returns-else-number-eq0-clause-refuses
returns-else-number-eq0-clause-refuses c =
    let named : c.in-Op.rd ≢ 0 = λ e. c.if-number-eq0.false (c.number.ensures.value ∙ e) in
    on_err_weaker c.narrow.result (λ refuses story at.
    let inside = inside_rows story.rows c.args.index c.args.row.now at in
    let last : c.args.index ≤ length story.rows = omega (arith, inside) in
    λ run h. refuses story run h (first_sound story c.args.table.now c.args.index c.in-Op.rd c.in-Op.rs1 c.in-Op.rs2 c.in-Op.op c.args.row.now c.at-made.result c.at-known.result c.first_operand.result at c.in-Op.is named c.at-made.ensures.value c.at-known.ensures.value c.first_operand.ensures run h) last) c.narrow.ensures.refuses
