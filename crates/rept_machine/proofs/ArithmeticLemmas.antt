-- Signed quotients.
use Rattle.std.specs.Prelude.{◌≡◌, ℕ, suc, ◌/◌, ◌^◌, ◌<◌, ◌≤◌, ℤ, pos, negsuc, int_div, FitsSigned}
use Rattle.std.specs.Int.{cast_signed, cast_unsigned}
use Rattle.std.proofs.Common.{arith, zero}
use Rattle.std.proofs.lemmas.Bool.Decides.{nat_tests}
use Rattle.std.proofs.Math.Nat.{div-le_self}
use mir.Syntax.{w32}
use lib.Signed.{mag}
use lib.IntN.{neg_ℤ}
use Rattle.rept_isa.specs.Numbers.{word}

-- a wrapped number has the same word
pub word_wrapped : (z : ℤ) → mag z ≤ 2 ^ 31 → word (cast_signed w32 (cast_unsigned w32 z)) ≡ word z
unfolding word
word_wrapped (pos n) h = grind (arith, nat_tests)
word_wrapped (negsuc n) h = grind (arith, nat_tests)

neg_small : (n m : ℕ) → n ≤ m → mag (neg_ℤ (pos n)) ≤ m
neg_small zero m h = omega arith
neg_small (suc n) m h = omega arith

pub quotient_small : (x y : ℤ) → FitsSigned w32 x → mag (int_div x y) ≤ 2 ^ 31
quotient_small (pos a) (pos b) h = let f : a < 2 ^ 31 = h.sfits in omega (arith, div-le_self a b)
quotient_small (pos a) (negsuc b) h = let f : a < 2 ^ 31 = h.sfits in neg_small (a / suc b) (2 ^ 31) (omega (arith, div-le_self a (suc b)))
quotient_small (negsuc a) (pos b) h = let f : a < 2 ^ 31 = h.sfits in neg_small (suc a / b) (2 ^ 31) (omega (arith, div-le_self (suc a) b))
quotient_small (negsuc a) (negsuc b) h = let f : a < 2 ^ 31 = h.sfits in omega (arith, div-le_self (suc a) (suc b))
