-- What AND tells of its operands.
use Rattle.std.proofs.Common.{◌≡◌, ◌⊎◌, ℕ, ◌+◌, ◌-◌, ◌^◌, ◌<◌, ◌≤◌, min, max, Bool, true, inl, inr, sym, ap, subst, ◌∙◌, arith}
use Rattle.std.specs.Prelude.{bit_and, bit_or}
use Rattle.std.specs.Int.{bit_at}
use mir.Syntax.{w32}
use Rattle.std.proofs.lemmas.Bool.{and_parts}
use Rattle.std.proofs.lemmas.Nat.{and_le_l, and_le_r, or_lt}
use Rattle.std.proofs.lemmas.Nat.Bits.{bit_at_and, bit_at_or, bit_at_not, bit_at-lt}
use Rattle.rept_partial.specs.Ranges.{range_has}
use Rattle.rept_known.specs.declared.bits.Bits.{Bits}
use Rattle.rept_known.specs.declared.both.Both.{Both}
use Rattle.rept_known.specs.Masks.{but, but_kept, bit_cases}
use Rattle.rept_known.specs.Bits.{bits_has}
use Rattle.rept_known.specs.Both.{both_has, both_sets}
use Rattle.rept_known.specs.Laws.BitsLaws.{Agrees, value_small, loose_small, open_bit, has_agrees, agrees_has}
use Rattle.rept_known.specs.Laws.BothLaws.{both_lawful}

-- the bits that are known of an operand
known_bits : Bits → Bits → ℕ
known_bits made other = bit_or made.value (bit_and (2 ^ 32 - 1 - made.loose) other.value)

known_small : (made other : Bits) → known_bits made other < 2 ^ 32
unfolding known_bits
known_small made other =
    let s = value_small other in
    let l = and_le_r (2 ^ 32 - 1 - made.loose) other.value in
    or_lt 32 made.value (bit_and (2 ^ 32 - 1 - made.loose) other.value) (value_small made) (omega (arith, s, l))

bit_told : (made other : Bits) (x y i : ℕ) → i < 32 → Agrees made (bit_and x y) → Agrees other y → bit_at (known_bits made other) i ≡ 1 → bit_at x i ≡ bit_at made.value i
unfolding known_bits
bit_told made other x y i l p q e =
    let o = bit_at_or made.value (bit_and (2 ^ 32 - 1 - made.loose) other.value) i in
    let a = bit_at_and (2 ^ 32 - 1 - made.loose) other.value i in
    let n = bit_at_not w32 made.loose i (loose_small made) l in
    let b = bit_at_and x y i in
    let xs = bit_at-lt x i in
    let ys = bit_at-lt y i in
    let vs = bit_at-lt made.value i in
    elim (bit_cases made.loose i) [
      | inl known ↦ let f = p.same i l known in elim (bit_cases other.loose i) [
        | inl also ↦ let g = q.same i l also in omega (arith, o, a, n, b, xs, ys, vs, e, f, g, known)
        | inr free ↦ let z = open_bit other i free in omega (arith, o, a, n, b, xs, ys, vs, e, f, z)
      ]
      | inr free ↦ let z = open_bit made i free in omega (arith, o, a, n, e, z, free)
    ]

bit_same : (made other result : Bits) (x y loose : ℕ) → loose ≡ 2 ^ 32 - 1 - known_bits made other → result.value ≡ but made.value loose → result.loose ≡ loose → Agrees made (bit_and x y) → Agrees other y → (i : ℕ) → i < 32 → bit_at result.loose i ≡ 0 → bit_at x i ≡ bit_at result.value i
bit_same made other result x y loose is value loose_is p q i l e =
    let known : ℕ = known_bits made other in
    let t : loose < 2 ^ 32 = omega (arith, is) in
    let z : bit_at loose i ≡ 0 = subst (λ (n : ℕ). bit_at n i ≡ 0) loose_is e in
    let n : bit_at loose i ≡ 1 - bit_at known i = subst (λ (k : ℕ). bit_at k i ≡ 1 - bit_at known i) (sym is) (bit_at_not w32 known i (known_small made other) l) in
    let s = bit_at-lt known i in
    let one : bit_at known i ≡ 1 = omega (arith, z, n, s) in
    bit_told made other x y i l p q one ∙ sym (but_kept made.value loose i t l z) ∙ ap (λ (k : ℕ). bit_at k i) (sym value)

unmasked_has : (made other result : Bits) (x y loose : ℕ) → loose ≡ 2 ^ 32 - 1 - bit_or made.value (bit_and (2 ^ 32 - 1 - made.loose) other.value) → result.value ≡ but made.value loose → result.loose ≡ loose → x < 2 ^ 32 → bits_has made (bit_and x y) ≡ true → bits_has other y ≡ true → bits_has result x ≡ true
unfolding known_bits
unmasked_has made other result x y loose is value loose_is small p q = agrees_has result x (record { small = small; same = bit_same made other result x y loose is value loose_is (has_agrees made (bit_and x y) p) (has_agrees other y q) })

-- by the numbers that its parts are read as
pub unmasked_as : (made other result : Bits) (value l o x y : ℕ) → value ≡ made.value → l ≡ made.loose → o ≡ other.value → result.value ≡ but value (2 ^ 32 - 1 - bit_or value (bit_and (2 ^ 32 - 1 - l) o)) → result.loose ≡ 2 ^ 32 - 1 - bit_or value (bit_and (2 ^ 32 - 1 - l) o) → x < 2 ^ 32 → bits_has made (bit_and x y) ≡ true → bits_has other y ≡ true → bits_has result x ≡ true
unmasked_as made other result value l o x y e f g v w small p q =
    let is : 2 ^ 32 - 1 - bit_or value (bit_and (2 ^ 32 - 1 - l) o) ≡ 2 ^ 32 - 1 - bit_or made.value (bit_and (2 ^ 32 - 1 - made.loose) other.value) =
    ap (λ (n : ℕ). 2 ^ 32 - 1 - bit_or n (bit_and (2 ^ 32 - 1 - l) o)) e ∙ ap (λ (n : ℕ). 2 ^ 32 - 1 - bit_or made.value (bit_and (2 ^ 32 - 1 - n) o)) f ∙ ap (λ (n : ℕ). 2 ^ 32 - 1 - bit_or made.value (bit_and (2 ^ 32 - 1 - made.loose) n)) g in
    let low : result.value ≡ but made.value (2 ^ 32 - 1 - bit_or value (bit_and (2 ^ 32 - 1 - l) o)) = v ∙ ap (λ (n : ℕ). but n (2 ^ 32 - 1 - bit_or value (bit_and (2 ^ 32 - 1 - l) o))) e in
    unmasked_has made other result x y (2 ^ 32 - 1 - bit_or value (bit_and (2 ^ 32 - 1 - l) o)) is low w small p q

pub bits_of : (a : Both) (v : ℕ) → both_has a v ≡ true → bits_has a.bits v ≡ true
bits_of a v h = (and_parts (range_has a.range v) (bits_has a.bits v) h).1

-- the result isn't above its operand
pub above_result : (made : Both) (x y : ℕ) → both_has made (bit_and x y) ≡ true → both_sets.lo made ≤ x
above_result made x y h =
    let b = (both_lawful.bounds made (bit_and x y) h).0 in
    let l = and_le_l x y in
    omega (arith, b, l)
