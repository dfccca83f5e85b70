use Rattle.std.proofs.Common.{◌≡◌, ◌≢◌, ◌<◌, ◌≤◌, ◌+◌, ℤ, ℕ, length, to_z, of_z, w32, rules, refl, sym, subst, ◌∙◌, arith}
use Rattle.rept_isa.specs.Numbers.{plus, beside}
use Rattle.rept_narrow.specs.Sweeps.{load_width}
use Rattle.rept_narrow.proofs.Sentences.{inside_rows}
use Rattle.rept_narrow.proofs.Loading.{load_tells}
use Rattle.rept_narrow.proofs.naming.loaded_byte.Goals as goal

pub returns-in-Some-byte_in : goal.returns-in-Some-byte_in
returns-in-Some-byte_in c = λ story run at h.
    let read : to_z w32 (of_z w32 c.in-Load.imm) ≡ c.in-Load.imm = search rules in
    let inside = inside_rows story.rows c.args.index c.args.row.now at in
    let le : c.args.index ≤ length story.rows = omega (arith, inside) in
    let named : c.in-Load.rd ≢ 0 = λ e. c.if-number-eq0.false (c.number.ensures.value ∙ e) in
    let width = c.load_width.ensures.width in
    let test = c.if-k-load_width.false in
    let less : c.args.k < load_width c.in-Load.op = omega (arith, width, test) in
    let there : plus ((run c.args.index).register c.in-Load.rs1) c.in-Load.imm ≡ c.in-Some.place = subst (λ (z : ℤ). plus ((run c.args.index).register c.in-Load.rs1) z ≡ c.in-Some.place) read (c.in-Some.ensures story run h le) in
    load_tells story run c.args.table.now c.args.index c.in-Load.rd c.in-Load.rs1 c.in-Load.imm c.in-Load.op c.args.row.now c.in-Some.place c.args.k (beside c.in-Some.place c.args.k) c.in-Some-byte_in.value c.at.result at c.in-Load.is named less c.at.ensures.value c.in-Some-byte_in.ensures h there refl
