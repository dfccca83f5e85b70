use Rattle.std.proofs.Common.{◌≡◌, ◌≢◌, ◌≤◌, ◌+◌, ℕ, pos, length, refl, ◌∙◌, arith}
use Rattle.std.proofs.lemmas.Result.{on_ok_weaker, on_err_weaker}
use Rattle.rept_isa.specs.Numbers.{plus}
use Rattle.rept_narrow.proofs.Sentences.{inside_rows}
use Rattle.rept_narrow.proofs.Exchanging.{answer_sound}
use Rattle.rept_narrow.proofs.atomic.answer_row.Goals as goal

pub returns-in-Some-told_word-clause-keeps : goal.returns-in-Some-told_word-clause-keeps
returns-in-Some-told_word-clause-keeps g c =
    let named : c.in-Amo.rd ≢ 0 = λ e. c.if-number-eq0.false (c.number.ensures.value ∙ e) in
    on_ok_weaker c.narrow.result (λ keeps story run at bytes h.
    let inside = inside_rows story.rows c.args.index c.args.row.now at in
    let le : c.args.index ≤ length story.rows = omega (arith, inside) in
    let there : plus ((run c.args.index).register c.in-Amo.rs1) (pos 0) ≡ c.in-Some.place = c.in-Some.ensures story run h le in
    keeps story run h (answer_sound story run c.args.table.now c.args.index c.in-Amo.rd c.in-Amo.rs1 c.in-Amo.rs2 c.in-Amo.op c.args.row.now at c.in-Amo.is named h c.in-Some.place c.in-Some-told_word.v c.exact.result (c.if-not-answers_word.ensures refl) c.exact.ensures there (c.in-Some-told_word.ensures story run bytes le))) c.narrow.ensures.keeps

pub returns-in-Some-told_word-clause-refuses : goal.returns-in-Some-told_word-clause-refuses
returns-in-Some-told_word-clause-refuses g c =
    let named : c.in-Amo.rd ≢ 0 = λ e. c.if-number-eq0.false (c.number.ensures.value ∙ e) in
    on_err_weaker c.narrow.result (λ refuses story run at bytes h.
    let inside = inside_rows story.rows c.args.index c.args.row.now at in
    let le : c.args.index ≤ length story.rows = omega (arith, inside) in
    let last : c.args.index + 1 ≤ length story.rows = omega (arith, inside) in
    let there : plus ((run c.args.index).register c.in-Amo.rs1) (pos 0) ≡ c.in-Some.place = c.in-Some.ensures story run h le in
    refuses story run h (answer_sound story run c.args.table.now c.args.index c.in-Amo.rd c.in-Amo.rs1 c.in-Amo.rs2 c.in-Amo.op c.args.row.now at c.in-Amo.is named h c.in-Some.place c.in-Some-told_word.v c.exact.result (c.if-not-answers_word.ensures refl) c.exact.ensures there (c.in-Some-told_word.ensures story run bytes le)) last) c.narrow.ensures.refuses
