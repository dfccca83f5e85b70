-- Words of signed numbers.
use Rattle.std.proofs.Common.{◌≡◌, ◌^◌, ◌<◌, arith}
use Rattle.std.specs.Prelude.{ℤ, pos, negsuc, FitsSigned}
use mir.Syntax.{w32}
use Rattle.std.specs.Int.{cast_unsigned}
use Rattle.rept_isa.specs.Numbers.{word}

pub word-fits : (z : ℤ) → word z < 2 ^ 32
unfolding word
word-fits (pos n) = omega arith
word-fits (negsuc n) = omega arith

pub word-cast : (z : ℤ) → FitsSigned w32 z → cast_unsigned w32 z ≡ word z
unfolding word
word-cast (pos n) h = let lt : n < 2 ^ 31 = h.sfits in omega arith
word-cast (negsuc n) h = let lt : n < 2 ^ 31 = h.sfits in omega arith
