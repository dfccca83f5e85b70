-- The fields of a word give its immediate.
use Rattle.std.specs.Prelude.{◌≡◌, ℕ, suc, ◌+◌, ◌-◌, ◌*◌, ◌/◌, ◌%◌, ◌^◌, ◌<◌, ℤ, pos, negsuc}
use Rattle.std.proofs.Common.{arith, sym, ap, ◌∙◌}
use Rattle.std.proofs.lemmas.Bool.Decides.{nat_tests}
use Rattle.rept_isa.specs.Numbers.{word}
use Rattle.rept_isa.specs.Words.{field, rd_field, rs2_field, funct7, signed, i_immediate, s_immediate, b_immediate, j_immediate}
use Rattle.rept_isa.specs.Range.{InBits, IsEven}

-- the low bits of a number that they can hold give it back
signed_12 : (z : ℤ) → InBits 12 z → z ≡ signed 12 (word z % 2 ^ 12)
unfolding word
signed_12 (pos n) h = let e : n % 2 ^ 32 % 2 ^ 12 ≡ n = omega arith in rw e (grind (arith, nat_tests))
signed_12 (negsuc n) h = let e : (2 ^ 32 - suc (n % 2 ^ 32)) % 2 ^ 12 ≡ 2 ^ 12 - suc n = omega arith in rw e (grind (arith, nat_tests))

signed_13 : (z : ℤ) → InBits 13 z → z ≡ signed 13 (word z % 2 ^ 13)
unfolding word
signed_13 (pos n) h = let e : n % 2 ^ 32 % 2 ^ 13 ≡ n = omega arith in rw e (grind (arith, nat_tests))
signed_13 (negsuc n) h = let e : (2 ^ 32 - suc (n % 2 ^ 32)) % 2 ^ 13 ≡ 2 ^ 13 - suc n = omega arith in rw e (grind (arith, nat_tests))

signed_21 : (z : ℤ) → InBits 21 z → z ≡ signed 21 (word z % 2 ^ 21)
unfolding word
signed_21 (pos n) h = let e : n % 2 ^ 32 % 2 ^ 21 ≡ n = omega arith in rw e (grind (arith, nat_tests))
signed_21 (negsuc n) h = let e : (2 ^ 32 - suc (n % 2 ^ 32)) % 2 ^ 21 ≡ 2 ^ 21 - suc n = omega arith in rw e (grind (arith, nat_tests))

-- an even number has an even word
pub even_word : (z : ℤ) → IsEven z → word z % 2 ≡ 0
unfolding word
even_word (pos n) h = omega arith
even_word (negsuc n) h = omega arith

-- bits 20 to 31, the fields of rs2 and funct7
pub upper_twelve : (w n : ℕ) → n < 2 ^ 12 → rs2_field w ≡ n % 32 → funct7 w ≡ n / 32 → field w 20 12 ≡ n
upper_twelve w n small low high = omega arith

pub i_is : (w x : ℕ) (z : ℤ) → x ≡ word z → InBits 12 z → rs2_field w ≡ x % 2 ^ 12 % 32 → funct7 w ≡ x % 2 ^ 12 / 32 → z ≡ i_immediate w
i_is w x z is fits low high =
    let e : field w 20 12 ≡ word z % 2 ^ 12 = rw (← is) (upper_twelve w (x % 2 ^ 12) (omega arith) low high) in
    signed_12 z fits ∙ ap (signed 12) (sym e)

pub s_is : (w x : ℕ) (z : ℤ) → x ≡ word z → InBits 12 z → rd_field w ≡ x % 2 ^ 12 % 32 → funct7 w ≡ x % 2 ^ 12 / 32 → z ≡ s_immediate w
s_is w x z is fits low high =
    let e : field w 7 5 + 2 ^ 5 * field w 25 7 ≡ word z % 2 ^ 12 = omega arith in
    signed_12 z fits ∙ ap (signed 12) (sym e)

pub b_is : (w x : ℕ) (z : ℤ) → x ≡ word z → InBits 13 z → IsEven z → rd_field w ≡ 2 * (x % 2 ^ 13 / 2 % 16) + x % 2 ^ 13 / 2 ^ 11 % 2 → funct7 w ≡ x % 2 ^ 13 / 32 % 64 + 64 * (x % 2 ^ 13 / 2 ^ 12) → z ≡ b_immediate w
b_is w x z is fits even low high =
    let two : word z % 2 ≡ 0 = even_word z even in
    let e : 2 ^ 1 * field w 8 4 + 2 ^ 5 * field w 25 6 + 2 ^ 11 * field w 7 1 + 2 ^ 12 * field w 31 1 ≡ word z % 2 ^ 13 = omega arith in
    signed_13 z fits ∙ ap (signed 13) (sym e)

pub j_is : (w x : ℕ) (z : ℤ) → x ≡ word z → InBits 21 z → IsEven z → field w 12 20 ≡ x % 2 ^ 21 / 2 ^ 12 % 256 + 256 * (x % 2 ^ 21 / 2 ^ 11 % 2) + 512 * (x % 2 ^ 21 / 2 % 1024) + 2 ^ 19 * (x % 2 ^ 21 / 2 ^ 20) → z ≡ j_immediate w
j_is w x z is fits even high =
    let two : word z % 2 ≡ 0 = even_word z even in
    let e : 2 ^ 1 * field w 21 10 + 2 ^ 11 * field w 20 1 + 2 ^ 12 * field w 12 8 + 2 ^ 20 * field w 31 1 ≡ word z % 2 ^ 21 = omega arith in
    signed_21 z fits ∙ ap (signed 21) (sym e)
