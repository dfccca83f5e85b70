use Rattle.std.proofs.Common.{◌≡◌, ◌≢◌, ◌<◌, ◌^◌, ◌≤◌, ℕ, true, length, to_z, of_z, w32, rules, ap, subst, sym, ◌∙◌, arith}
use Rattle.std.proofs.lemmas.Result.{on_ok_weaker, on_err_weaker}
use Rattle.rept_isa.specs.Numbers.{word}
use Rattle.rept_isa.specs.declared.instr.RegOp.{RegOp}
use Rattle.rept_machine.specs.Arithmetic.{computed, register_form}
use Rattle.rept_known.specs.Both.{both_has, both_sets}
use Rattle.rept_narrow.proofs.Sentences.{inside_rows}
use Rattle.rept_narrow.proofs.Undoing.{operand_sound}
use Rattle.rept_narrow.proofs.inverse.immediate_back.Goals as goal

pub returns-else-number-eq0-clause-keeps : goal.returns-else-number-eq0-clause-keeps
returns-else-number-eq0-clause-keeps c =
    let read : to_z w32 (of_z w32 c.in-Imm.imm) ≡ c.in-Imm.imm = search rules in
    let named : c.in-Imm.rd ≢ 0 = λ e. c.if-number-eq0.false (c.number.ensures.value ∙ e) in
    let is : c.exact-known.result ≡ both_sets.exact (word c.in-Imm.imm) = c.exact-known.ensures ∙ ap both_sets.exact (c.word.ensures ∙ ap word read) in
    let makes = subst (λ (op : RegOp). (x y : ℕ) → x < 2 ^ 32 → both_has c.at-made.result (computed op x y) ≡ true → both_has c.exact-known.result y ≡ true → both_has c.first_operand.result x ≡ true) c.register_form.ensures c.first_operand.ensures in
    on_ok_weaker c.narrow.result (λ keeps story at run h. keeps story run h (operand_sound story c.args.table.now c.args.index c.in-Imm.rd c.in-Imm.rs1 c.in-Imm.imm c.in-Imm.op c.args.row.now c.at-made.result c.exact-known.result c.first_operand.result at c.in-Imm.is named c.at-made.ensures.value is makes run h)) c.narrow.ensures.keeps

pub returns-else-number-eq0-clause-refuses : goal.returns-else-number-eq0-clause-refuses
returns-else-number-eq0-clause-refuses c =
    let read : to_z w32 (of_z w32 c.in-Imm.imm) ≡ c.in-Imm.imm = search rules in
    let named : c.in-Imm.rd ≢ 0 = λ e. c.if-number-eq0.false (c.number.ensures.value ∙ e) in
    let is : c.exact-known.result ≡ both_sets.exact (word c.in-Imm.imm) = c.exact-known.ensures ∙ ap both_sets.exact (c.word.ensures ∙ ap word read) in
    let makes = subst (λ (op : RegOp). (x y : ℕ) → x < 2 ^ 32 → both_has c.at-made.result (computed op x y) ≡ true → both_has c.exact-known.result y ≡ true → both_has c.first_operand.result x ≡ true) c.register_form.ensures c.first_operand.ensures in
    on_err_weaker c.narrow.result (λ refuses story at.
    let inside = inside_rows story.rows c.args.index c.args.row.now at in
    let last : c.args.index ≤ length story.rows = omega (arith, inside) in
    λ run h. refuses story run h (operand_sound story c.args.table.now c.args.index c.in-Imm.rd c.in-Imm.rs1 c.in-Imm.imm c.in-Imm.op c.args.row.now c.at-made.result c.exact-known.result c.first_operand.result at c.in-Imm.is named c.at-made.ensures.value is makes run h) last) c.narrow.ensures.refuses
