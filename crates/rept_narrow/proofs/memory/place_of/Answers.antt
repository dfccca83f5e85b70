use Rattle.std.proofs.Common.{◌≡◌, ℤ, to_z, of_z, w32, rules, ap, sym, ◌∙◌}
use Rattle.rept_isa.specs.Numbers.{plus}
use Rattle.rept_narrow.proofs.Loading.{placed}
use Rattle.rept_narrow.proofs.memory.place_of.Goals as goal

pub returns-in-Some : goal.returns-in-Some
returns-in-Some c = λ story run h le.
    let read : to_z w32 (of_z w32 c.args.imm) ≡ c.args.imm = search rules in
    let is : c.plus.result ≡ plus c.in-Some.base c.args.imm = c.plus.ensures ∙ ap (λ (z : ℤ). plus c.in-Some.base z) read in
    placed story run c.args.table.now c.args.index c.args.rs1 c.in-Some.base c.args.imm c.at.result c.plus.result c.at.ensures.value (sym c.as_exact.ensures ∙ c.in-Some.is) is h le
