use Rattle.std.proofs.Common.{◌<◌, ◌≤◌, ◌^◌, arith}
use Rattle.std.proofs.Math.Nat.{pow-le-pow_right}
use Rattle.rept_word.proofs.parsing.digits.hexadecimal_value.Goals as goal

pub overflow_mul-n : goal.overflow_mul-n
overflow_mul-n c =
    let below : c.loop-digit.digit-index ≤ 7 = omega arith in
    let some : 0 < 16 = omega arith in
    let bound : 16 ^ c.loop-digit.digit-index ≤ 16 ^ 7 = pow-le-pow_right some below in
    omega (arith, bound, c.loop-digit.invariant.small)

pub overflow_add-n : goal.overflow_add-n
overflow_add-n c =
    let below : c.loop-digit.digit-index ≤ 7 = omega arith in
    let some : 0 < 16 = omega arith in
    let bound : 16 ^ c.loop-digit.digit-index ≤ 16 ^ 7 = pow-le-pow_right some below in
    omega (arith, bound, c.loop-digit.invariant.small, c.digit_of.ensures.small)
