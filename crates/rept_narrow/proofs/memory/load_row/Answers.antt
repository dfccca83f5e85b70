use Rattle.std.proofs.Common.{◌≡◌, ◌≢◌, ◌≤◌, ◌+◌, ℤ, ℕ, length, to_z, of_z, w32, rules, sym, subst, ◌∙◌, arith}
use Rattle.std.proofs.lemmas.Result.{on_ok_weaker, on_err_weaker}
use Rattle.rept_isa.specs.Numbers.{plus}
use Rattle.rept_narrow.proofs.Sentences.{inside_rows}
use Rattle.rept_narrow.proofs.Loading.{load_sound}
use Rattle.rept_narrow.proofs.memory.load_row.Goals as goal

pub returns-in-Some-told_load-clause-keeps : goal.returns-in-Some-told_load-clause-keeps
returns-in-Some-told_load-clause-keeps g c =
    let read : to_z w32 (of_z w32 c.in-Load.imm) ≡ c.in-Load.imm = search rules in
    let named : c.in-Load.rd ≢ 0 = λ e. c.if-number-eq0.false (c.number.ensures.value ∙ e) in
    on_ok_weaker c.narrow.result (λ keeps story run at bytes h.
    let inside = inside_rows story.rows c.args.index c.args.row.now at in
    let le : c.args.index ≤ length story.rows = omega (arith, inside) in
    let there : plus ((run c.args.index).register c.in-Load.rs1) c.in-Load.imm ≡ c.in-Some.place = subst (λ (z : ℤ). plus ((run c.args.index).register c.in-Load.rs1) z ≡ c.in-Some.place) read (c.in-Some.ensures story run h le) in
    keeps story run h (load_sound story run c.args.table.now c.args.index c.in-Load.rd c.in-Load.rs1 c.in-Load.imm c.in-Load.op c.args.row.now c.in-Some.place c.in-Some-told_load.v c.exact.result at c.in-Load.is named c.exact.ensures h there (c.in-Some-told_load.ensures story run bytes le))) c.narrow.ensures.keeps

pub returns-in-Some-told_load-clause-refuses : goal.returns-in-Some-told_load-clause-refuses
returns-in-Some-told_load-clause-refuses g c =
    let read : to_z w32 (of_z w32 c.in-Load.imm) ≡ c.in-Load.imm = search rules in
    let named : c.in-Load.rd ≢ 0 = λ e. c.if-number-eq0.false (c.number.ensures.value ∙ e) in
    on_err_weaker c.narrow.result (λ refuses story run at bytes h.
    let inside = inside_rows story.rows c.args.index c.args.row.now at in
    let le : c.args.index ≤ length story.rows = omega (arith, inside) in
    let last : c.args.index + 1 ≤ length story.rows = omega (arith, inside) in
    let there : plus ((run c.args.index).register c.in-Load.rs1) c.in-Load.imm ≡ c.in-Some.place = subst (λ (z : ℤ). plus ((run c.args.index).register c.in-Load.rs1) z ≡ c.in-Some.place) read (c.in-Some.ensures story run h le) in
    refuses story run h (load_sound story run c.args.table.now c.args.index c.in-Load.rd c.in-Load.rs1 c.in-Load.imm c.in-Load.op c.args.row.now c.in-Some.place c.in-Some-told_load.v c.exact.result at c.in-Load.is named c.exact.ensures h there (c.in-Some-told_load.ensures story run bytes le)) last) c.narrow.ensures.refuses
