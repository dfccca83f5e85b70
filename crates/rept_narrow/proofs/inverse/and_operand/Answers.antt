use Rattle.std.proofs.Common.{◌≡◌, ◌<◌, ◌≤◌, ◌^◌, ℕ, Bool, true, sym, ap, subst, ◌∙◌, arith}
use Rattle.std.specs.Prelude.{bit_and}
use Rattle.rept_known.specs.declared.bits.Bits.{Bits}
use Rattle.rept_known.specs.Bits.{bits_has}
use Rattle.rept_known.specs.Both.{both_has, both_sets}
use Rattle.rept_narrow.proofs.Unmasking.{bits_of, above_result}
use Rattle.rept_narrow.proofs.inverse.and_operand.Goals as goal

pub returns : goal.returns
returns c = λ x y small p q.
    let low = above_result c.args.made x y p in
    let least : c.lo.result ≤ x = subst (λ (n : ℕ). n ≤ x) (sym c.lo.ensures) low in
    let made : bits_has c.bits.result (bit_and x y) ≡ true = subst (λ (b : Bits). bits_has b (bit_and x y) ≡ true) (sym c.bits.ensures) (bits_of c.args.made (bit_and x y) p) in
    let other : bits_has c.bits-2.result y ≡ true = subst (λ (b : Bits). bits_has b y ≡ true) (sym c.bits-2.ensures) (bits_of c.args.other y q) in
    c.words_between.ensures x least (omega (arith, small)) (c.unmasked.ensures x y small made other)
