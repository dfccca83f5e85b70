use Rattle.std.proofs.Common.{◌≡◌, ◌≤◌, ◌+◌, ℤ, ℕ, length, to_z, of_z, w32, rules, sym, subst, ◌∙◌, arith}
use Rattle.std.proofs.lemmas.Result.{on_ok_weaker, on_err_weaker}
use Rattle.rept_machine.specs.Arithmetic.{store_width}
use Rattle.rept_isa.specs.Numbers.{plus}
use Rattle.rept_narrow.proofs.Sentences.{inside_rows}
use Rattle.rept_narrow.proofs.Loading.{source_sound}
use Rattle.rept_narrow.proofs.memory.store_row.Goals as goal

pub returns-in-Some-told_word-clause-keeps : goal.returns-in-Some-told_word-clause-keeps
returns-in-Some-told_word-clause-keeps g c =
    let one = c.in-Store in
    let width = c.store_width.ensures.value in
    let four = c.if-store_width-ne4.false in
    let wide : store_width one.op ≡ 4 = sym width ∙ four in
    let read : to_z w32 (of_z w32 one.imm) ≡ one.imm = search rules in
    on_ok_weaker c.narrow.result (λ keeps story run at bytes h.
    let inside = inside_rows story.rows c.args.index c.args.row.now at in
    let le : c.args.index ≤ length story.rows = omega (arith, inside) in
    let last : c.args.index + 1 ≤ length story.rows = omega (arith, inside) in
    let there : plus ((run c.args.index).register one.rs1) one.imm ≡ c.in-Some.place = subst (λ (z : ℤ). plus ((run c.args.index).register one.rs1) z ≡ c.in-Some.place) read (c.in-Some.ensures story run h le) in
    keeps story run h (source_sound story run c.args.table.now c.args.index one.rs1 one.rs2 one.imm one.op c.args.row.now c.in-Some.place c.in-Some-told_word.v c.exact.result at one.is wide c.exact.ensures h there (c.in-Some-told_word.ensures story run bytes last))) c.narrow.ensures.keeps

pub returns-in-Some-told_word-clause-refuses : goal.returns-in-Some-told_word-clause-refuses
returns-in-Some-told_word-clause-refuses g c =
    let one = c.in-Store in
    let width = c.store_width.ensures.value in
    let four = c.if-store_width-ne4.false in
    let wide : store_width one.op ≡ 4 = sym width ∙ four in
    let read : to_z w32 (of_z w32 one.imm) ≡ one.imm = search rules in
    on_err_weaker c.narrow.result (λ refuses story run at bytes h.
    let inside = inside_rows story.rows c.args.index c.args.row.now at in
    let le : c.args.index ≤ length story.rows = omega (arith, inside) in
    let last : c.args.index + 1 ≤ length story.rows = omega (arith, inside) in
    let there : plus ((run c.args.index).register one.rs1) one.imm ≡ c.in-Some.place = subst (λ (z : ℤ). plus ((run c.args.index).register one.rs1) z ≡ c.in-Some.place) read (c.in-Some.ensures story run h le) in
    refuses story run h (source_sound story run c.args.table.now c.args.index one.rs1 one.rs2 one.imm one.op c.args.row.now c.in-Some.place c.in-Some-told_word.v c.exact.result at one.is wide c.exact.ensures h there (c.in-Some-told_word.ensures story run bytes last)) le) c.narrow.ensures.refuses
