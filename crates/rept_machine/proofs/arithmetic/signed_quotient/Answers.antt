use Rattle.std.proofs.Common.{◌≡◌, ◌==◌, false, ap, ◌∙◌, FitsSigned, arith}
use Rattle.std.specs.Prelude.{int_div}
use Rattle.std.specs.Int.{int_wrapping_div}
use Rattle.std.proofs.lemmas.Int.{to_z-of_z}
use Rattle.std.proofs.lemmas.Bool.Decides.{nat_tests}
use mir.Syntax.{w32}
use Rattle.rept_isa.specs.Numbers.{word}
use Rattle.rept_machine.proofs.ArithmeticLemmas.{word_wrapped, quotient_small}
use Rattle.rept_machine.proofs.arithmetic.signed_quotient.Goals as goal

pub returns-else-b-eq0 : goal.returns-else-b-eq0
returns-else-b-eq0 c =
    let x = c.cast_signed.result in
    let y = c.cast_signed-else-b-eq0.result in
    let d = c.wrapping_div.result in
    let fits_x : FitsSigned w32 x = record { sfits = c.cast_signed.type_inv } in
    let fits_y : FitsSigned w32 y = record { sfits = c.cast_signed-else-b-eq0.type_inv } in
    let fits_d : FitsSigned w32 d = record { sfits = c.wrapping_div.type_inv } in
    let divided : d ≡ int_wrapping_div w32 x y = rw (to_z-of_z w32 x fits_x, to_z-of_z w32 y fits_y) at c.wrapping_div.ensures in
    let worded : c.word.result ≡ word d = rw (to_z-of_z w32 d fits_d) at c.word.ensures in
    let wrapped : word (int_wrapping_div w32 x y) ≡ word (int_div x y) = word_wrapped (int_div x y) (quotient_small x y fits_x) in
    let other : (c.args.b == 0) ≡ false = grind (arith, nat_tests) in
    rw (other, ← c.cast_signed.ensures, ← c.cast_signed-else-b-eq0.ensures) (worded ∙ ap word divided ∙ wrapped)
