use Rattle.std.proofs.Common.{arith, ◌≡◌, ◌≤◌, ◌^◌, ◌-◌, ◌+◌, ◌*◌, ◌%◌, ℕ, ap, ◌∙◌}
use Rattle.std.proofs.Math.Nat.{mod-eq_of_lt}
use Rattle.std.proofs.Math.Pow.{pow_mono}
use Rattle.std.proofs.lemmas.Nat.{pow-add}
use Rattle.rept_word.proofs.NumberLemmas.{extends}
use Rattle.rept_word.proofs.number.sext.Goals as goal

size_is : (bits : ℕ) → 2 ^ bits ≤ 4294967296 → 1 * 2 ^ bits % 18446744073709551616 ≡ 2 ^ bits
size_is bits le = let a : 1 * 2 ^ bits ≡ 2 ^ bits = omega arith in rw a (mod-eq_of_lt (omega arith))

pub returns-else-low-size : goal.returns-else-low-size
returns-else-low-size c =
    let bits = c.args.bits in
    let below = c.requires.in_word in
    let small : 2 ^ bits ≤ 2 ^ 32 = pow_mono below in
    let size = size_is bits small in
    let same : bits ≡ 1 + (bits - 1) = omega arith in
    let twofold : 2 ^ bits ≡ 2 * 2 ^ (bits - 1) = ap (λ n. 2 ^ n) same ∙ pow-add 2 1 (bits - 1) in
    let high = rw (size, c.from.ensures) at c.if-low-size.false in
    rw (size, c.from.ensures) (extends (c.args.v % 2 ^ bits) (2 ^ bits) (2 ^ (bits - 1)) twofold small high)
