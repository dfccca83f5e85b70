use Rattle.std.proofs.Common.{◌≡◌, ◌<◌, ◌≤◌, ◌+◌, ℤ, ℕ, length, to_z, of_z, w32, rules, refl, sym, subst, ◌∙◌, arith}
use Rattle.rept_isa.specs.Numbers.{plus, beside}
use Rattle.rept_machine.specs.Arithmetic.{store_width}
use Rattle.rept_narrow.proofs.Sentences.{inside_rows}
use Rattle.rept_narrow.proofs.Loading.{store_tells}
use Rattle.rept_narrow.proofs.naming.stored_byte.Goals as goal

pub returns-in-Some-byte_in : goal.returns-in-Some-byte_in
returns-in-Some-byte_in c = λ story run at h.
    let read : to_z w32 (of_z w32 c.in-Store.imm) ≡ c.in-Store.imm = search rules in
    let inside = inside_rows story.rows c.args.index c.args.row.now at in
    let le : c.args.index ≤ length story.rows = omega (arith, inside) in
    let width = c.store_width.ensures.value in
    let test = c.if-k-store_width.false in
    let less : c.args.k < store_width c.in-Store.op = omega (arith, width, test) in
    let there : plus ((run c.args.index).register c.in-Store.rs1) c.in-Store.imm ≡ c.in-Some.place = subst (λ (z : ℤ). plus ((run c.args.index).register c.in-Store.rs1) z ≡ c.in-Some.place) read (c.in-Some.ensures story run h le) in
    store_tells story run c.args.table.now c.args.index c.in-Store.rs1 c.in-Store.rs2 c.in-Store.imm c.in-Store.op c.args.row.now c.in-Some.place c.args.k (beside c.in-Some.place c.args.k) c.in-Some-byte_in.value c.at.result at c.in-Store.is less c.at.ensures.value c.in-Some-byte_in.ensures h there refl
