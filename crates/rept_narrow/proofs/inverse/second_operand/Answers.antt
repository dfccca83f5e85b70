use Rattle.std.proofs.Common.{◌≡◌, ◌<◌, ◌^◌, ℕ, true, sym, subst}
use Rattle.rept_isa.specs.declared.instr.RegOp.{RegOp}
use Rattle.rept_machine.specs.Arithmetic.{computed}
use Rattle.rept_known.specs.declared.both.Both.{Both}
use Rattle.rept_known.specs.Both.{both_has}
use Rattle.rept_known.specs.Laws.BothLaws.{both_lawful}
use Rattle.rept_narrow.proofs.Undoing.{second_of_add, second_of_sub, second_of_xor, second_of_and}
use Rattle.rept_narrow.proofs.inverse.second_operand.Goals as goal

pub returns-in-Add : goal.returns-in-Add
returns-in-Add c = subst (λ (op : RegOp). (x y : ℕ) → y < 2 ^ 32 → both_has c.args.made (computed op x y) ≡ true → both_has c.args.first x ≡ true → both_has c.combined.result y ≡ true) (sym c.in-Add.is) (second_of_add c.args.made c.args.first c.combined.result c.combined.ensures)

pub returns-in-Sub : goal.returns-in-Sub
returns-in-Sub c = subst (λ (op : RegOp). (x y : ℕ) → y < 2 ^ 32 → both_has c.args.made (computed op x y) ≡ true → both_has c.args.first x ≡ true → both_has c.combined-in-Sub.result y ≡ true) (sym c.in-Sub.is) (second_of_sub c.args.made c.args.first c.combined-in-Sub.result c.combined-in-Sub.ensures)

pub returns-in-Xor : goal.returns-in-Xor
returns-in-Xor c = subst (λ (op : RegOp). (x y : ℕ) → y < 2 ^ 32 → both_has c.args.made (computed op x y) ≡ true → both_has c.args.first x ≡ true → both_has c.combined-in-Xor.result y ≡ true) (sym c.in-Xor.is) (second_of_xor c.args.made c.args.first c.combined-in-Xor.result c.combined-in-Xor.ensures)

pub returns-in-And : goal.returns-in-And
returns-in-And c = subst (λ (op : RegOp). (x y : ℕ) → y < 2 ^ 32 → both_has c.args.made (computed op x y) ≡ true → both_has c.args.first x ≡ true → both_has c.and_operand.result y ≡ true) (sym c.in-And.is) (second_of_and c.args.made c.args.first c.and_operand.result c.and_operand.ensures)

pub returns-in_default : goal.returns-in_default
returns-in_default c = λ x y small f g. subst (λ (b : Both). both_has b y ≡ true) (sym c.unknown.ensures) (both_lawful.unknown y small)
