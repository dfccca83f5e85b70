use Rattle.std.proofs.Common.{◌+◌, ◌≤◌, ◌≡◌, length, Some, arith, sym, ◌∙◌}
use Rattle.std.proofs.lemmas.Result.{on_ok_weaker, on_err_weaker}
use Rattle.rept_isa.specs.Operands.{written_by}
use Rattle.rept_narrow.proofs.Sentences.{inside_rows, made_sound_as}
use Rattle.rept_narrow.proofs.row.forward.Goals as goal

pub returns-in-Some-clause-keeps : goal.returns-in-Some-clause-keeps
returns-in-Some-clause-keeps c =
    let written : written_by c.args.row.now.instr ≡ Some c.in-Some.rd = sym c.writes.ensures ∙ c.in-Some.is in
    on_ok_weaker c.narrow.result (λ keeps story at run h. keeps story run h ((made_sound_as story c.args.table.now c.args.index c.in-Some.rd c.args.row.now c.operand-a.result c.operand-b.result c.from.result c.apply-made.result c.reads-first.result.0 c.reads-first.result.1 at written c.reads-first.ensures.first c.reads-first.ensures.second c.operand-a.ensures c.operand-b.ensures c.from.ensures c.apply-made.ensures) run h)) c.narrow.ensures.keeps

pub returns-in-Some-clause-refuses : goal.returns-in-Some-clause-refuses
returns-in-Some-clause-refuses c =
    let written : written_by c.args.row.now.instr ≡ Some c.in-Some.rd = sym c.writes.ensures ∙ c.in-Some.is in
    on_err_weaker c.narrow.result (λ refuses story at.
    let inside = inside_rows story.rows c.args.index c.args.row.now at in
    let last : c.args.index + 1 ≤ length story.rows = omega (arith, inside) in
    λ run h. refuses story run h ((made_sound_as story c.args.table.now c.args.index c.in-Some.rd c.args.row.now c.operand-a.result c.operand-b.result c.from.result c.apply-made.result c.reads-first.result.0 c.reads-first.result.1 at written c.reads-first.ensures.first c.reads-first.ensures.second c.operand-a.ensures c.operand-b.ensures c.from.ensures c.apply-made.ensures) run h) last) c.narrow.ensures.refuses
