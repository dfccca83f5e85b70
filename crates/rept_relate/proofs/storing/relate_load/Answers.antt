use Rattle.std.proofs.Common.{◌≡◌, ◌≢◌, ℕ, to_z, of_z, w32, rules, sym, ap, ◌∙◌}
use Rattle.std.proofs.lemmas.Result.{on_ok_weaker, on_err_weaker}
use Rattle.rept_isa.specs.Numbers.{word, beside}
use Rattle.rept_isa.specs.Operands.{first_read}
use Rattle.rept_machine.specs.Arithmetic.{loaded}
use Rattle.rept_relate.proofs.Remembering.{first_small, loaded_value}
use Rattle.rept_relate.proofs.storing.relate_load.Goals as goal

pub returns-else-number-eq0-clause-keeps : goal.returns-else-number-eq0-clause-keeps
returns-else-number-eq0-clause-keeps c =
    let read : to_z w32 (of_z w32 c.in-Load.imm) ≡ c.in-Load.imm = search rules in
    let named : c.in-Load.rd ≢ 0 = λ e. c.if-number-eq0.false (c.number.ensures.value ∙ e) in
    let offset : word c.in-Load.imm ≡ c.word.result = sym (c.word.ensures ∙ ap word read) in
    on_ok_weaker c.load_value.result (λ keeps value image_end s t w valued held.
    let small = first_small c.args.row.now c.args.node c.args.nodes value image_end s t c.in-Load.rs1 (ap first_read c.in-Load.is) w in
    let made = loaded_value c.args.row.now c.args.node c.args.nodes value image_end s t c.in-Load.op c.in-Load.rd c.in-Load.rs1 c.in-Load.imm c.in-Load.is named w in
    let there = made ∙ ap (λ (n : ℕ). loaded c.in-Load.op s.memory (beside (value c.args.nodes.first) n)) offset in
    keeps value s w.zero small there valued held) c.load_value.ensures.keeps

pub returns-else-number-eq0-clause-refuses : goal.returns-else-number-eq0-clause-refuses
returns-else-number-eq0-clause-refuses c =
    let read : to_z w32 (of_z w32 c.in-Load.imm) ≡ c.in-Load.imm = search rules in
    let named : c.in-Load.rd ≢ 0 = λ e. c.if-number-eq0.false (c.number.ensures.value ∙ e) in
    let offset : word c.in-Load.imm ≡ c.word.result = sym (c.word.ensures ∙ ap word read) in
    on_err_weaker c.load_value.result (λ refuses value image_end s t w valued held.
    let small = first_small c.args.row.now c.args.node c.args.nodes value image_end s t c.in-Load.rs1 (ap first_read c.in-Load.is) w in
    let made = loaded_value c.args.row.now c.args.node c.args.nodes value image_end s t c.in-Load.op c.in-Load.rd c.in-Load.rs1 c.in-Load.imm c.in-Load.is named w in
    let there = made ∙ ap (λ (n : ℕ). loaded c.in-Load.op s.memory (beside (value c.args.nodes.first) n)) offset in
    refuses value s w.zero small there valued held) c.load_value.ensures.refuses
