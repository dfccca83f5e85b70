use Rattle.std.proofs.Common.{◌≡◌, ℕ, to_z, of_z, w32, rules, sym, ap, subst, ◌∙◌}
use Rattle.std.proofs.lemmas.Result.{on_ok_weaker, on_err_weaker}
use Rattle.rept_isa.specs.Numbers.{word, beside}
use Rattle.rept_isa.specs.Operands.{first_read}
use Rattle.rept_machine.specs.Arithmetic.{word_at, store_width}
use Rattle.rept_relate.specs.Holding.{KeepsOthers}
use Rattle.rept_relate.proofs.Remembering.{first_small, stored_others, stored_word, atomic_others}
use Rattle.rept_relate.proofs.storing.relate_write.Goals as goal

pub returns-in-Store-clause-keeps : goal.returns-in-Store-clause-keeps
returns-in-Store-clause-keeps c =
    let read : to_z w32 (of_z w32 c.in-Store.imm) ≡ c.in-Store.imm = search rules in
    let offset : word c.in-Store.imm ≡ c.word.result = sym (c.word.ensures ∙ ap word read) in
    on_ok_weaker c.store.result (λ keeps value image_end s t w valued held.
    let small = first_small c.args.row.now c.args.node c.args.nodes value image_end s t c.in-Store.rs1 (ap first_read c.in-Store.is) w in
    let others = subst (λ (k : ℕ). KeepsOthers s t (beside (value c.args.nodes.first) c.word.result) k) (sym c.store_width-width.ensures.value) (subst (λ (n : ℕ). KeepsOthers s t (beside (value c.args.nodes.first) n) (store_width c.in-Store.op)) offset (stored_others c.args.row.now c.args.node c.args.nodes value image_end s t c.in-Store.op c.in-Store.rs1 c.in-Store.rs2 c.in-Store.imm c.in-Store.is w)) in
    let stored = λ (four : c.store_width-width.result ≡ 4). ap (λ (n : ℕ). word_at t.memory (beside (value c.args.nodes.first) n)) (sym offset) ∙ stored_word c.args.row.now c.args.node c.args.nodes value image_end s t c.in-Store.op c.in-Store.rs1 c.in-Store.rs2 c.in-Store.imm c.in-Store.is w (sym c.store_width-width.ensures.value ∙ four) in
    keeps value s t w.zero small others stored valued held) c.store.ensures.keeps

pub returns-in-Store-clause-refuses : goal.returns-in-Store-clause-refuses
returns-in-Store-clause-refuses c = on_err_weaker c.store.result (λ refuses value image_end s t w valued held. refuses value w.zero (first_small c.args.row.now c.args.node c.args.nodes value image_end s t c.in-Store.rs1 (ap first_read c.in-Store.is) w) valued) c.store.ensures.refuses

pub returns-in-Amo-clause-below : goal.returns-in-Amo-clause-below
returns-in-Amo-clause-below c = λ limit below less. c.store_atomic.ensures.below limit below

pub returns-in-Amo-clause-keeps : goal.returns-in-Amo-clause-keeps
returns-in-Amo-clause-keeps c = on_ok_weaker c.store_atomic.result (λ keeps value image_end s t w valued held. keeps value s t w.zero (first_small c.args.row.now c.args.node c.args.nodes value image_end s t c.in-Amo.rs1 (ap first_read c.in-Amo.is) w) (atomic_others c.args.row.now c.args.node c.args.nodes value image_end s t c.in-Amo.op c.in-Amo.rd c.in-Amo.rs1 c.in-Amo.rs2 c.in-Amo.is w) valued held) c.store_atomic.ensures.keeps

pub returns-in-Amo-clause-refuses : goal.returns-in-Amo-clause-refuses
returns-in-Amo-clause-refuses c = on_err_weaker c.store_atomic.result (λ refuses value image_end s t w valued held. refuses value w.zero (first_small c.args.row.now c.args.node c.args.nodes value image_end s t c.in-Amo.rs1 (ap first_read c.in-Amo.is) w) valued) c.store_atomic.ensures.refuses
