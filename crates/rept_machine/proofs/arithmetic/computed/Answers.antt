use Rattle.std.proofs.Common.{arith, rules, FitsSigned, ◌*ℤ◌, ◌^◌, ◌≡◌}
use Rattle.std.proofs.lemmas.Int.{to_z-of_z, fits_signed_mul}
use mir.Syntax.{w64}
use Rattle.rept_machine.specs.Arithmetic.{high_word}
use Rattle.rept_machine.proofs.arithmetic.computed.Goals as goal

pub returns-in-Mulh : goal.returns-in-Mulh
returns-in-Mulh c =
    let x = c.widened.result in
    let y = c.widened-in-Mulh.result in
    let fits_x : FitsSigned w64 x = record { sfits = c.widened.type_inv } in
    let fits_y : FitsSigned w64 y = record { sfits = c.widened-in-Mulh.type_inv } in
    let fits : FitsSigned w64 (x *ℤ y) = fits_signed_mul w64 x y (2 ^ 31) (2 ^ 31) (search rules) (search rules) (omega arith) in
    let high : c.high_word.result ≡ high_word (x *ℤ y) = rw (to_z-of_z w64 x fits_x, to_z-of_z w64 y fits_y, to_z-of_z w64 (x *ℤ y) fits) at c.high_word.ensures in
    rw (c.in-Mulh.is, ← c.widened.ensures.value, ← c.widened-in-Mulh.ensures.value) high
