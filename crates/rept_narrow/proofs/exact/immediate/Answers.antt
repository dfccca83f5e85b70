use Rattle.std.proofs.Common.{◌≡◌, ◌≢◌, ◌+◌, ◌≤◌, length, to_z, of_z, w32, rules, ap, sym, ◌∙◌, arith}
use Rattle.std.proofs.lemmas.Result.{on_ok_weaker, on_err_weaker}
use Rattle.rept_machine.specs.Arithmetic.{computed_imm}
use Rattle.rept_known.specs.Both.{both_sets}
use Rattle.rept_narrow.proofs.Sentences.{inside_rows}
use Rattle.rept_narrow.proofs.Computing.{immediate_sound}
use Rattle.rept_narrow.proofs.exact.immediate.Goals as goal

pub returns-in-Some-clause-keeps : goal.returns-in-Some-clause-keeps
returns-in-Some-clause-keeps c =
    let read : to_z w32 (of_z w32 c.in-Imm.imm) ≡ c.in-Imm.imm = search rules in
    let named : c.in-Imm.rd ≢ 0 = λ e. c.if-number-eq0.false (c.number.ensures.value ∙ e) in
    let is : c.exact-made.result ≡ both_sets.exact (computed_imm c.in-Imm.op c.in-Some.value c.in-Imm.imm) = c.exact-made.ensures ∙ ap both_sets.exact (c.computed_imm.ensures ∙ ap (λ z. computed_imm c.in-Imm.op c.in-Some.value z) read) in
    on_ok_weaker c.narrow.result (λ keeps story at run h. keeps story run h (immediate_sound story c.args.table.now c.args.index c.in-Imm.op c.in-Imm.rd c.in-Imm.rs1 c.in-Imm.imm c.in-Some.value c.args.row.now c.at.result c.exact-made.result at c.in-Imm.is named c.at.ensures.value (sym c.as_exact.ensures ∙ c.in-Some.is) is run h)) c.narrow.ensures.keeps

pub returns-in-Some-clause-refuses : goal.returns-in-Some-clause-refuses
returns-in-Some-clause-refuses c =
    let read : to_z w32 (of_z w32 c.in-Imm.imm) ≡ c.in-Imm.imm = search rules in
    let named : c.in-Imm.rd ≢ 0 = λ e. c.if-number-eq0.false (c.number.ensures.value ∙ e) in
    let is : c.exact-made.result ≡ both_sets.exact (computed_imm c.in-Imm.op c.in-Some.value c.in-Imm.imm) = c.exact-made.ensures ∙ ap both_sets.exact (c.computed_imm.ensures ∙ ap (λ z. computed_imm c.in-Imm.op c.in-Some.value z) read) in
    on_err_weaker c.narrow.result (λ refuses story at.
    let inside = inside_rows story.rows c.args.index c.args.row.now at in
    let last : c.args.index + 1 ≤ length story.rows = omega (arith, inside) in
    λ run h. refuses story run h (immediate_sound story c.args.table.now c.args.index c.in-Imm.op c.in-Imm.rd c.in-Imm.rs1 c.in-Imm.imm c.in-Some.value c.args.row.now c.at.result c.exact-made.result at c.in-Imm.is named c.at.ensures.value (sym c.as_exact.ensures ∙ c.in-Some.is) is run h) last) c.narrow.ensures.refuses
