use Rattle.std.proofs.Common.{◌≡◌, ◌≢◌, ℕ, to_z, of_z, w32, rules, sym, ap, subst, ◌∙◌}
use Rattle.std.proofs.lemmas.Result.{on_ok_weaker, on_err_weaker}
use Rattle.rept_isa.specs.declared.instr.RegOp.{RegOp}
use Rattle.rept_isa.specs.Numbers.{word}
use Rattle.rept_machine.specs.Arithmetic.{register_form}
use Rattle.rept_relate.specs.Relations.{IsComputedOf}
use Rattle.rept_relate.proofs.Rowing.{branch_equal, imm_computed, op_computed}
use Rattle.rept_relate.proofs.relating.relate_row.Goals as goal

pub returns-in-Branch-clause-keeps : goal.returns-in-Branch-clause-keeps
returns-in-Branch-clause-keeps c = on_ok_weaker c.relate_branch.result (λ keeps value w valued results. (keeps value (branch_equal c.args.row.now c.args.node c.args.nodes value c.in-Branch.op c.in-Branch.rs1 c.in-Branch.rs2 c.in-Branch.imm c.in-Branch.is w) valued, results)) c.relate_branch.ensures.keeps

pub returns-in-Branch-clause-refuses : goal.returns-in-Branch-clause-refuses
returns-in-Branch-clause-refuses c = on_err_weaker c.relate_branch.result (λ refuses value w valued results. refuses value (branch_equal c.args.row.now c.args.node c.args.nodes value c.in-Branch.op c.in-Branch.rs1 c.in-Branch.rs2 c.in-Branch.imm c.in-Branch.is w) valued) c.relate_branch.ensures.refuses

pub returns-else-number-eq0-clause-keeps : goal.returns-else-number-eq0-clause-keeps
returns-else-number-eq0-clause-keeps c =
    let read : to_z w32 (of_z w32 c.in-Imm.imm) ≡ c.in-Imm.imm = search rules in
    let named : c.in-Imm.rd ≢ 0 = λ e. c.if-number-eq0.false (c.number.ensures.value ∙ e) in
    on_ok_weaker c.compute_constant.result (λ keeps value w valued results.
    let it = imm_computed c.args.row.now c.args.node c.args.nodes value c.in-Imm.op c.in-Imm.rd c.in-Imm.rs1 c.in-Imm.imm c.in-Imm.is named w in
    let it_word = subst (λ (n : ℕ). IsComputedOf (register_form c.in-Imm.op) c.args.node c.args.nodes.first n value) (sym (c.word.ensures ∙ ap word read)) it in
    let it_op = subst (λ (o : RegOp). IsComputedOf o c.args.node c.args.nodes.first c.word.result value) (sym c.register_form-op.ensures) it_word in
    keeps value it_op valued results) c.compute_constant.ensures.keeps

pub returns-else-number-eq0-clause-refuses : goal.returns-else-number-eq0-clause-refuses
returns-else-number-eq0-clause-refuses c =
    let read : to_z w32 (of_z w32 c.in-Imm.imm) ≡ c.in-Imm.imm = search rules in
    let named : c.in-Imm.rd ≢ 0 = λ e. c.if-number-eq0.false (c.number.ensures.value ∙ e) in
    on_err_weaker c.compute_constant.result (λ refuses value w valued results.
    let it = imm_computed c.args.row.now c.args.node c.args.nodes value c.in-Imm.op c.in-Imm.rd c.in-Imm.rs1 c.in-Imm.imm c.in-Imm.is named w in
    let it_word = subst (λ (n : ℕ). IsComputedOf (register_form c.in-Imm.op) c.args.node c.args.nodes.first n value) (sym (c.word.ensures ∙ ap word read)) it in
    let it_op = subst (λ (o : RegOp). IsComputedOf o c.args.node c.args.nodes.first c.word.result value) (sym c.register_form-op.ensures) it_word in
    refuses value it_op valued results) c.compute_constant.ensures.refuses

pub returns-else-number-eq0-2-clause-keeps : goal.returns-else-number-eq0-2-clause-keeps
returns-else-number-eq0-2-clause-keeps c =
    let named : c.in-Op.rd ≢ 0 = λ e. c.if-number-eq0-2.false (c.number-in-Op.ensures.value ∙ e) in
    on_ok_weaker c.compute_registers.result (λ keeps value w valued results. keeps value (op_computed c.args.row.now c.args.node c.args.nodes value c.in-Op.op c.in-Op.rd c.in-Op.rs1 c.in-Op.rs2 c.in-Op.is named w) valued results) c.compute_registers.ensures.keeps

pub returns-else-number-eq0-2-clause-refuses : goal.returns-else-number-eq0-2-clause-refuses
returns-else-number-eq0-2-clause-refuses c =
    let named : c.in-Op.rd ≢ 0 = λ e. c.if-number-eq0-2.false (c.number-in-Op.ensures.value ∙ e) in
    on_err_weaker c.compute_registers.result (λ refuses value w valued results. refuses value (op_computed c.args.row.now c.args.node c.args.nodes value c.in-Op.op c.in-Op.rd c.in-Op.rs1 c.in-Op.rs2 c.in-Op.is named w) valued results) c.compute_registers.ensures.refuses
