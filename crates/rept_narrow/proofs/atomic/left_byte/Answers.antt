use Rattle.std.proofs.Common.{◌≡◌, ◌≢◌, ◌<◌, ◌≤◌, ◌+◌, ◌*◌, ◌/◌, ◌^◌, ℕ, pos, length, refl, sym, ◌∙◌, arith}
use Rattle.rept_isa.specs.Numbers.{plus, beside}
use Rattle.rept_narrow.proofs.Sentences.{inside_rows}
use Rattle.rept_narrow.proofs.Placing.{low_byte}
use Rattle.rept_narrow.proofs.Exchanging.{left_tells}
use Rattle.rept_narrow.proofs.atomic.left_byte.Goals as goal

pub returns-in_ok-word-in-Amo : goal.returns-in_ok-word-in-Amo
returns-in_ok-word-in-Amo c = λ story run at h.
    let inside = inside_rows story.rows c.args.index c.args.row.now at in
    let le : c.args.index ≤ length story.rows = omega (arith, inside) in
    let named : c.in-Amo.rd ≢ 0 = λ e. c.if-number-eq0.false (c.number.ensures.value ∙ e) in
    let test = c.if-k-ge4.false in
    let less : c.args.k < 4 = omega (arith, test) in
    let place = c.in_ok-place-in-Amo.place in
    let word = c.in_ok-word-in-Amo.word in
    let there : plus ((run c.args.index).register c.in-Amo.rs1) (pos 0) ≡ place = c.in_ok-place-in-Amo.ensures story run h le in
    left_tells story run c.args.table.now c.args.index c.in-Amo.rd c.in-Amo.rs1 c.in-Amo.rs2 c.in-Amo.op c.args.row.now at c.in-Amo.is named h place c.args.k (beside place c.args.k) _ word c.in_ok-answer-in-Amo.answer c.in_ok-source-in-Amo.source c.at.result c.at-in-Amo.result c.at.ensures.value c.at-in-Amo.ensures.value (sym c.as_exact.ensures ∙ c.in_ok-answer-in-Amo.was) (sym c.as_exact-in-Amo.ensures ∙ c.in_ok-source-in-Amo.was) c.in_ok-word-in-Amo.ensures less there refl (low_byte (word / 2 ^ (8 * c.args.k)))
