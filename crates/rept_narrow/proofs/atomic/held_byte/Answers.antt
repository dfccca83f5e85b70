use Rattle.std.proofs.Common.{◌≡◌, ◌≢◌, ◌<◌, ◌≤◌, ◌+◌, ℕ, pos, length, refl, ◌∙◌, arith}
use Rattle.rept_isa.specs.Numbers.{plus, beside}
use Rattle.rept_narrow.proofs.Sentences.{inside_rows}
use Rattle.rept_narrow.proofs.Exchanging.{held_tells}
use Rattle.rept_narrow.proofs.atomic.held_byte.Goals as goal

pub returns-in-Some-byte_in : goal.returns-in-Some-byte_in
returns-in-Some-byte_in c = λ story run at h.
    let inside = inside_rows story.rows c.args.index c.args.row.now at in
    let le : c.args.index ≤ length story.rows = omega (arith, inside) in
    let named : c.in-Amo.rd ≢ 0 = λ e. c.if-number-eq0.false (c.number.ensures.value ∙ e) in
    let test = c.if-k-ge4.false in
    let less : c.args.k < 4 = omega (arith, test) in
    let there : plus ((run c.args.index).register c.in-Amo.rs1) (pos 0) ≡ c.in-Some.place = c.in-Some.ensures story run h le in
    held_tells story run c.args.table.now c.args.index c.in-Amo.rd c.in-Amo.rs1 c.in-Amo.rs2 c.in-Amo.op c.args.row.now at c.in-Amo.is named h c.in-Some.place c.args.k (beside c.in-Some.place c.args.k) c.in-Some-byte_in.value c.at.result (c.if-not-answers_word.ensures refl) less c.at.ensures.value c.in-Some-byte_in.ensures there refl
