use Rattle.std.proofs.Common.{◌≡◌, ◌<◌, ◌^◌, ℕ, true, sym, subst}
use Rattle.rept_isa.specs.declared.instr.RegOp.{RegOp}
use Rattle.rept_machine.specs.Arithmetic.{computed}
use Rattle.rept_known.specs.declared.both.Both.{Both}
use Rattle.rept_known.specs.Both.{both_has}
use Rattle.rept_known.specs.Laws.BothLaws.{both_lawful}
use Rattle.rept_narrow.proofs.Undoing.{first_of_add, first_of_sub, first_of_xor}
use Rattle.rept_narrow.proofs.inverse.first_operand.Goals as goal

pub returns-in-Add : goal.returns-in-Add
returns-in-Add c = subst (λ (op : RegOp). (x y : ℕ) → x < 2 ^ 32 → both_has c.args.made (computed op x y) ≡ true → both_has c.args.second y ≡ true → both_has c.combined.result x ≡ true) (sym c.in-Add.is) (first_of_add c.args.made c.args.second c.combined.result c.combined.ensures)

pub returns-in-Sub : goal.returns-in-Sub
returns-in-Sub c = subst (λ (op : RegOp). (x y : ℕ) → x < 2 ^ 32 → both_has c.args.made (computed op x y) ≡ true → both_has c.args.second y ≡ true → both_has c.combined-in-Sub.result x ≡ true) (sym c.in-Sub.is) (first_of_sub c.args.made c.args.second c.combined-in-Sub.result c.combined-in-Sub.ensures)

pub returns-in-Xor : goal.returns-in-Xor
returns-in-Xor c = subst (λ (op : RegOp). (x y : ℕ) → x < 2 ^ 32 → both_has c.args.made (computed op x y) ≡ true → both_has c.args.second y ≡ true → both_has c.combined-in-Xor.result x ≡ true) (sym c.in-Xor.is) (first_of_xor c.args.made c.args.second c.combined-in-Xor.result c.combined-in-Xor.ensures)

pub returns-in-And : goal.returns-in-And
returns-in-And c = subst (λ (op : RegOp). (x y : ℕ) → x < 2 ^ 32 → both_has c.args.made (computed op x y) ≡ true → both_has c.args.second y ≡ true → both_has c.and_operand.result x ≡ true) (sym c.in-And.is) c.and_operand.ensures

pub returns-in_default : goal.returns-in_default
returns-in_default c = λ x y small f g. subst (λ (b : Both). both_has b x ≡ true) (sym c.unknown.ensures) (both_lawful.unknown x small)
