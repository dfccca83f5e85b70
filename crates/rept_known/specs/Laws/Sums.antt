-- The sum of two words of which some bits are known: bit by bit, over the carry into each.
use Rattle.std.proofs.Common.{◌≡◌, ℕ, ◌+◌, ◌-◌, ◌*◌, ◌/◌, ◌%◌, ◌^◌, ◌<◌, ◌≤◌, max, inl, inr, sym, ap, ◌∙◌, arith}
use Rattle.std.specs.Prelude.{bit_and, bit_or, bit_xor}
use Rattle.std.specs.Int.{bit_at}
use mir.Syntax.{w32}
use Rattle.std.proofs.Math.Nat.{mul-add-div_right}
use Rattle.std.proofs.lemmas.Nat.{pow_pos, and_le_l, and_le_r, and_mod, div_below, div-add-mod', mod_below}
use Rattle.std.proofs.lemmas.Nat.Bits.{bit_at_and, bit_at_or, bit_at_xor, bit_at_not, bit_at-lt, same_from_bits_below}
use Rattle.rept_span.specs.Laws.RangeBounds.{div_more}
use Rattle.rept_known.specs.declared.bits.Bits.{Bits}
use Rattle.rept_known.specs.Masks.{bit_cases, bit_of_word}
use Rattle.rept_partial.specs.Ranges.{word}
use Rattle.rept_known.specs.Bits.{outside}
use Rattle.rept_known.specs.Laws.BitsLaws.{Agrees, KnowsAll, value_small, loose_small, open_bit, least_agrees, greatest_agrees, greatest_open, in_outside, outside_same, outside_knows, value_kept}
use Rattle.rept_known.specs.Operations.{sum_bits, difference_bits}

-- the carry into bit i of the sum of two numbers and a first carry
abbrev pub carry : ℕ → ℕ → ℕ → ℕ → ℕ
carry x y first i = (x % 2 ^ i + y % 2 ^ i + first) / 2 ^ i

parity : (p q c : ℕ) → (p + q + c) % 2 ≡ (p % 2 + q % 2 + c) % 2
parity p q c = omega arith

regroup : (a b p q r c P : ℕ) → a ≡ p * P + q → b ≡ r * P + c → (f : ℕ) → a + b + f ≡ (p + r) * P + (q + c + f)
regroup a b p q r c P e g f = omega (arith, e, g)

-- a bit of a sum is odd where the operands' bits and the carry into it are
pub sum_bit : (x y first i : ℕ) → bit_at (x + y + first) i ≡ (bit_at x i + bit_at y i + carry x y first i) % 2
sum_bit x y first i =
    let P = 2 ^ i in
    let e = regroup x y (x / P) (x % P) (y / P) (y % P) P (sym (div-add-mod' x P)) (sym (div-add-mod' y P)) first in
    let d : ((x / P + y / P) * P + (x % P + y % P + first)) / P ≡ (x / P + y / P) + carry x y first i = mul-add-div_right (pow_pos i) (x / P + y / P) (x % P + y % P + first) in
    ap (λ n. n % 2) (ap (λ n. n / P) e ∙ d) ∙ parity (x / P) (y / P) (carry x y first i)

carry_small : (x y first i : ℕ) → first ≤ 1 → carry x y first i < 2
carry_small x y first i le =
    let p = mod_below x (2 ^ i) (pow_pos i) in
    let q = mod_below y (2 ^ i) (pow_pos i) in
    div_below (x % 2 ^ i + y % 2 ^ i + first) (2 ^ i) 2 (pow_pos i) (omega (arith, p, q))

carry_more : (x y u w first i : ℕ) → x % 2 ^ i ≤ u % 2 ^ i → y % 2 ^ i ≤ w % 2 ^ i → carry x y first i ≤ carry u w first i
carry_more x y u w first i p q = div_more (x % 2 ^ i + y % 2 ^ i + first) (u % 2 ^ i + w % 2 ^ i + first) (2 ^ i) (omega (arith, p, q)) (pow_pos i)

-- a number whose bits another one has is below it, and so are their low bits
low_bits_below : (u w i : ℕ) → bit_and u w ≡ u → u % 2 ^ i ≤ w % 2 ^ i
low_bits_below u w i e =
    let m = and_mod u w i in
    let f : u % 2 ^ i ≡ bit_and u w % 2 ^ i = ap (λ n. n % 2 ^ i) (sym e) in
    let l = and_le_r (u % 2 ^ i) (w % 2 ^ i) in
    omega (arith, m, f, l)

has_bits : (u w : ℕ) → u < 2 ^ 32 → ((i : ℕ) → i < 32 → bit_at u i ≤ bit_at w i) → bit_and u w ≡ u
has_bits u w s h = same_from_bits_below 32 (bit_and u w) u (let l = and_le_l u w in omega (arith, l)) s (λ i l. let e = bit_at_and u w i in let k = h i l in omega (arith, e, k))

pub least_below : (a : Bits) (x i : ℕ) → Agrees a x → a.value % 2 ^ i ≤ x % 2 ^ i
least_below a x i h = low_bits_below a.value x i (has_bits a.value x (value_small a) bit)
  where
    bit : (j : ℕ) → j < 32 → bit_at a.value j ≤ bit_at x j
    bit j l = elim (bit_cases a.loose j) [
      | inl e ↦ let f = h.same j l e in omega (arith, f)
      | inr e ↦ let f = open_bit a j e in omega (arith, f)
    ]

pub greatest_above : (a : Bits) (x i : ℕ) → Agrees a x → x % 2 ^ i ≤ (a.value + a.loose) % 2 ^ i
greatest_above a x i h = low_bits_below x (a.value + a.loose) i (has_bits x (a.value + a.loose) h.small bit)
  where
    top : Agrees a (a.value + a.loose)
    top = greatest_agrees a

    bit : (j : ℕ) → j < 32 → bit_at x j ≤ bit_at (a.value + a.loose) j
    bit j l = elim (bit_cases a.loose j) [
      | inl e ↦ let f = h.same j l e in let g = top.same j l e in omega (arith, f, g)
      | inr e ↦ let f = greatest_open a j e in let g = bit_at-lt x j in omega (arith, f, g)
    ]

-- carries of one parity that lie between two alike are alike
between_alike : (p q l c g : ℕ) → (p + q + g) % 2 ≡ (p + q + l) % 2 → l ≤ c → c ≤ g → g < 2 → (p + q + c) % 2 ≡ (p + q + l) % 2
between_alike p q l c g e h k s = omega arith

-- the sums of the least and of the greatest words
abbrev pub least : Bits → Bits → ℕ → ℕ
least a b first = a.value + b.value + first

abbrev pub greatest : Bits → Bits → ℕ → ℕ
greatest a b first = (a.value + a.loose) + (b.value + b.loose) + first

add_bits : (p q c p' q' : ℕ) → p ≡ p' → q ≡ q' → (p + q + c) % 2 ≡ (p' + q' + c) % 2
add_bits p q c p' q' e f = omega arith

-- The lemma: where no bit of the operands is open, and the two sums don't differ, each sum has
-- their bit.
pub sum_known : (a b : Bits) (x y first i : ℕ) → first ≤ 1 → Agrees a x → Agrees b y → i < 32 → bit_at a.loose i ≡ 0 → bit_at b.loose i ≡ 0 → bit_at (greatest a b first) i ≡ bit_at (least a b first) i → bit_at (x + y + first) i ≡ bit_at (least a b first) i
sum_known a b x y first i le h k l e f same =
    let v = a.value in
    let w = b.value in
    let lower = carry_more v w x y first i (least_below a x i h) (least_below b y i k) in
    let upper = carry_more x y (v + a.loose) (w + b.loose) first i (greatest_above a x i h) (greatest_above b y i k) in
    let top_a = greatest_agrees a in
    let top_b = greatest_agrees b in
    let s = sum_bit x y first i in
    let s' = sum_bit v w first i in
    let s'' = sum_bit (v + a.loose) (w + b.loose) first i in
    let one : (bit_at v i + bit_at w i + carry (v + a.loose) (w + b.loose) first i) % 2 ≡ (bit_at v i + bit_at w i + carry v w first i) % 2 =
    add_bits (bit_at v i) (bit_at w i) (carry (v + a.loose) (w + b.loose) first i) (bit_at (v + a.loose) i) (bit_at (w + b.loose) i) (sym (top_a.same i l e)) (sym (top_b.same i l f)) ∙ sym s'' ∙ same ∙ s' in
    s ∙ add_bits (bit_at x i) (bit_at y i) (carry x y first i) (bit_at v i) (bit_at w i) (h.same i l e) (k.same i l f)
    ∙ between_alike (bit_at v i) (bit_at w i) (carry v w first i) (carry x y first i) (carry (v + a.loose) (w + b.loose) first i) one lower upper (carry_small (v + a.loose) (w + b.loose) first i le)
    ∙ sym s'

-- where a bit of `x | y | z` is 0, so is that of each
pub none_of_three : (x y z i : ℕ) → bit_at (bit_or x (bit_or y z)) i ≡ 0 → (bit_at x i ≡ 0) × (bit_at y i ≡ 0) × (bit_at z i ≡ 0)
none_of_three x y z i e =
    let p = bit_at_or x (bit_or y z) i in
    let q = bit_at_or y z i in
    none (bit_at x i) (bit_at y i) (bit_at z i) (bit_at (bit_or y z) i) (sym p ∙ e) q
  where
    none : (p q r s : ℕ) → max p s ≡ 0 → s ≡ max q r → (p ≡ 0) × (q ≡ 0) × (r ≡ 0)
    none p q r s e f = (omega arith, omega arith, omega arith)

pub all_of_three : (x y z i : ℕ) → bit_at x i ≡ 0 → bit_at y i ≡ 0 → bit_at z i ≡ 0 → bit_at (bit_or x (bit_or y z)) i ≡ 0
all_of_three x y z i e f g =
    bit_at_or x (bit_or y z) i ∙ ap (λ n. max (bit_at x i) n) (bit_at_or y z i) ∙ none (bit_at x i) (bit_at y i) (bit_at z i) e f g
  where
    none : (p q r : ℕ) → p ≡ 0 → q ≡ 0 → r ≡ 0 → max p (max q r) ≡ 0
    none p q r e f g = omega arith

-- numbers differ in a bit where their `^` has it
pub xor_alike : (x y i : ℕ) → bit_at (bit_xor x y) i ≡ 0 → bit_at x i ≡ bit_at y i
xor_alike x y i e = alike (bit_at x i) (bit_at y i) (bit_at-lt x i) (bit_at-lt y i) (sym (bit_at_xor x y i) ∙ e)
  where
    alike : (p q : ℕ) → p < 2 → q < 2 → (p + q) % 2 ≡ 0 → p ≡ q
    alike p q s t e = omega arith

pub alike_xor : (x y i : ℕ) → bit_at x i ≡ bit_at y i → bit_at (bit_xor x y) i ≡ 0
alike_xor x y i e = bit_at_xor x y i ∙ even (bit_at x i) (bit_at y i) e
  where
    even : (p q : ℕ) → p ≡ q → (p + q) % 2 ≡ 0
    even p q e = omega arith

-- equal words have equal bits
same_word_bit : (x y i : ℕ) → i < 32 → x % 2 ^ 32 ≡ y % 2 ^ 32 → bit_at x i ≡ bit_at y i
same_word_bit x y i l e = sym (bit_of_word x i l) ∙ ap (λ n. bit_at n i) e ∙ bit_of_word y i l

-- ---- sums
abbrev sum_open : Bits → Bits → ℕ
sum_open a b = bit_or (bit_xor (word (a.value + b.value + a.loose + b.loose)) (word (a.value + b.value))) (bit_or a.loose b.loose)

record SumKnown (a b : Bits) (i : ℕ) : Type 0 where
  one : bit_at a.loose i ≡ 0
  two : bit_at b.loose i ≡ 0
  same : bit_at (greatest a b 0) i ≡ bit_at (least a b 0) i

sum_parts : (a b : Bits) (i : ℕ) → i < 32 → bit_at (sum_open a b) i ≡ 0 → SumKnown a b i
sum_parts a b i l e =
    let p = none_of_three (bit_xor (word (a.value + b.value + a.loose + b.loose)) (word (a.value + b.value))) a.loose b.loose i e in
    let x = xor_alike (word (a.value + b.value + a.loose + b.loose)) (word (a.value + b.value)) i p.0 in
    record {
      one = p.1;
      two = p.2;
      same = same_word_bit (greatest a b 0) (word (a.value + b.value + a.loose + b.loose)) i l (omega arith) ∙ x ∙ same_word_bit (word (a.value + b.value)) (least a b 0) i l (omega arith);
    }

sum_alike : (a b : Bits) (x y i : ℕ) → Agrees a x → Agrees b y → i < 32 → SumKnown a b i → bit_at ((x + y) % 2 ^ 32) i ≡ bit_at (word (a.value + b.value)) i
sum_alike a b x y i h k l p =
    same_word_bit ((x + y) % 2 ^ 32) (x + y + 0) i l (omega arith) ∙ sum_known a b x y 0 i (omega arith) h k l p.one p.two p.same ∙ same_word_bit (least a b 0) (word (a.value + b.value)) i l (omega arith)

pub sum_covers : (a b : Bits) (x y : ℕ) → Agrees a x → Agrees b y → Agrees (sum_bits a b) ((x + y) % 2 ^ 32)
sum_covers a b x y h k = in_outside (word (a.value + b.value)) (sum_open a b) ((x + y) % 2 ^ 32) (omega arith) (λ i l e. sum_alike a b x y i h k l (sum_parts a b i l e))

-- a set's words in one that knows less
pub agrees_more : (a b : Bits) (x : ℕ) → KnowsAll a b → Agrees a x → Agrees b x
agrees_more a b x k h = record { small = h.small; same = λ i l e. h.same i l (k.known i l e) ∙ k.same i l e }

pub sum_knows : (a a' b b' : Bits) → KnowsAll a a' → KnowsAll b b' → KnowsAll (sum_bits a b) (sum_bits a' b')
sum_knows a a' b b' h k = outside_knows (word (a.value + b.value)) (sum_open a b) (sum_bits a' b') (λ i l e. bit i l (sym (bit_of_word (sum_open a' b') i l) ∙ e))
  where
    bit : (i : ℕ) → i < 32 → bit_at (sum_open a' b') i ≡ 0 → (bit_at (sum_open a b) i ≡ 0) × (bit_at (word (a.value + b.value)) i ≡ bit_at (sum_bits a' b').value i)
    bit i l e =
        let p = sum_parts a' b' i l e in
        let low = sum_alike a' b' a.value b.value i (agrees_more a a' a.value h (least_agrees a)) (agrees_more b b' b.value k (least_agrees b)) l p in
        let high = sum_alike a' b' (a.value + a.loose) (b.value + b.loose) i (agrees_more a a' (a.value + a.loose) h (greatest_agrees a)) (agrees_more b b' (b.value + b.loose) k (greatest_agrees b)) l p in
        let top : bit_at (word (a.value + b.value + a.loose + b.loose)) i ≡ bit_at (word (a.value + b.value)) i =
        same_word_bit (word (a.value + b.value + a.loose + b.loose)) (((a.value + a.loose) + (b.value + b.loose)) % 2 ^ 32) i l (omega arith) ∙ high ∙ sym low in (
          all_of_three (bit_xor (word (a.value + b.value + a.loose + b.loose)) (word (a.value + b.value))) a.loose b.loose i (alike_xor (word (a.value + b.value + a.loose + b.loose)) (word (a.value + b.value)) i top) (h.known i l p.one) (k.known i l p.two),
          low ∙ sym (value_kept (word (a'.value + b'.value)) (sum_open a' b') i l e),
        )

-- ---- differences: y is taken away by adding its complement and 1
abbrev pub flipped : Bits → Bits
flipped b = outside (2 ^ 32 - 1 - b.value) b.loose

flipped_bit : (y i : ℕ) → y < 2 ^ 32 → i < 32 → bit_at (2 ^ 32 - 1 - y) i ≡ 1 - bit_at y i
flipped_bit y i s l = bit_at_not w32 y i s l

pub flipped_agrees : (b : Bits) (y : ℕ) → Agrees b y → Agrees (flipped b) (2 ^ 32 - 1 - y)
flipped_agrees b y h =
    in_outside (2 ^ 32 - 1 - b.value) b.loose (2 ^ 32 - 1 - y) (omega arith)
    (λ i l e. flipped_bit y i h.small l ∙ ap (λ n. 1 - n) (h.same i l e) ∙ sym (flipped_bit b.value i (value_small b) l))

-- and back
pub agrees_flipped : (b : Bits) (v : ℕ) → Agrees (flipped b) v → Agrees b (2 ^ 32 - 1 - v)
agrees_flipped b v h = record {
  small = omega arith;
  same = λ i l e. flipped_bit v i h.small l ∙ ap (λ n. 1 - n) (outside_same (2 ^ 32 - 1 - b.value) b.loose v i h l e ∙ flipped_bit b.value i (value_small b) l) ∙ twice (bit_at b.value i) (bit_at-lt b.value i);
}
  where
    twice : (n : ℕ) → n < 2 → 1 - (1 - n) ≡ n
    twice n l = omega arith

flipped_loose : (b : Bits) → (flipped b).loose ≡ b.loose
flipped_loose b = let s = loose_small b in omega arith

-- the least complement is that of the greatest word
flipped_value : (b : Bits) → (flipped b).value ≡ 2 ^ 32 - 1 - (b.value + b.loose)
flipped_value b = same_from_bits_below 32 (flipped b).value (2 ^ 32 - 1 - (b.value + b.loose)) (value_small (flipped b)) (omega arith) bit
  where
    top : Agrees b (b.value + b.loose)
    top = greatest_agrees b

    bit : (i : ℕ) → i < 32 → bit_at (flipped b).value i ≡ bit_at (2 ^ 32 - 1 - (b.value + b.loose)) i
    bit i l = elim (bit_cases b.loose i) [
      | inl e ↦ value_kept (2 ^ 32 - 1 - b.value) b.loose i l e ∙ flipped_bit b.value i (value_small b) l ∙ ap (λ n. 1 - n) (sym (top.same i l e)) ∙ sym (flipped_bit (b.value + b.loose) i b.small l)
      | inr e ↦ open_bit (flipped b) i (ap (λ n. bit_at n i) (flipped_loose b) ∙ e) ∙ sym (flipped_bit (b.value + b.loose) i b.small l ∙ ap (λ n. 1 - n) (greatest_open b i e))
    ]

abbrev difference_top : Bits → Bits → ℕ
difference_top a b = word (a.value + (2 ^ 32 - b.value) + a.loose)

abbrev difference_bottom : Bits → Bits → ℕ
difference_bottom a b = word (a.value + (2 ^ 32 - b.value) + (2 ^ 32 - b.loose))

abbrev difference_known : Bits → Bits → ℕ
difference_known a b = word (a.value + (2 ^ 32 - b.value))

abbrev difference_open : Bits → Bits → ℕ
difference_open a b = bit_or (bit_xor (difference_top a b) (difference_bottom a b)) (bit_or a.loose b.loose)

bottom_word : (a b : Bits) → difference_bottom a b ≡ word (least a (flipped b) 1)
bottom_word a b =
    let f = flipped_value b in
    let s = b.small in
    omega (arith, f, s)

top_word : (a b : Bits) → difference_top a b ≡ word (greatest a (flipped b) 1)
top_word a b =
    let f = flipped_value b in
    let g = flipped_loose b in
    let s = b.small in
    omega (arith, f, g, s)

record DifferenceKnown (a b : Bits) (i : ℕ) : Type 0 where
  one : bit_at a.loose i ≡ 0
  two : bit_at b.loose i ≡ 0
  same : bit_at (greatest a (flipped b) 1) i ≡ bit_at (least a (flipped b) 1) i

difference_parts : (a b : Bits) (i : ℕ) → i < 32 → bit_at (difference_open a b) i ≡ 0 → DifferenceKnown a b i
difference_parts a b i l e =
    let p = none_of_three (bit_xor (difference_top a b) (difference_bottom a b)) a.loose b.loose i e in
    record {
      one = p.1;
      two = p.2;
      same = sym (bit_of_word (greatest a (flipped b) 1) i l) ∙ ap (λ n. bit_at n i) (sym (top_word a b)) ∙ xor_alike (difference_top a b) (difference_bottom a b) i p.0 ∙ ap (λ n. bit_at n i) (bottom_word a b) ∙ bit_of_word (least a (flipped b) 1) i l;
    }

taken_word : (x y : ℕ) → y < 2 ^ 32 → (x + (2 ^ 32 - y)) % 2 ^ 32 ≡ (x + (2 ^ 32 - 1 - y) + 1) % 2 ^ 32
taken_word x y s = omega arith

difference_least : (a b : Bits) (x y i : ℕ) → Agrees a x → Agrees b y → i < 32 → DifferenceKnown a b i → bit_at ((x + (2 ^ 32 - y)) % 2 ^ 32) i ≡ bit_at (least a (flipped b) 1) i
difference_least a b x y i h k l p =
    ap (λ n. bit_at n i) (taken_word x y k.small) ∙ bit_of_word (x + (2 ^ 32 - 1 - y) + 1) i l
    ∙ sum_known a (flipped b) x (2 ^ 32 - 1 - y) 1 i (omega arith) h (flipped_agrees b y k) l p.one (ap (λ n. bit_at n i) (flipped_loose b) ∙ p.two) p.same

difference_alike : (a b : Bits) (x y i : ℕ) → Agrees a x → Agrees b y → i < 32 → DifferenceKnown a b i → bit_at ((x + (2 ^ 32 - y)) % 2 ^ 32) i ≡ bit_at (difference_known a b) i
difference_alike a b x y i h k l p = difference_least a b x y i h k l p ∙ sym (difference_least a b a.value b.value i (least_agrees a) (least_agrees b) l p)

pub difference_covers : (a b : Bits) (x y : ℕ) → Agrees a x → Agrees b y → Agrees (difference_bits a b) ((x + (2 ^ 32 - y)) % 2 ^ 32)
difference_covers a b x y h k = in_outside (difference_known a b) (difference_open a b) ((x + (2 ^ 32 - y)) % 2 ^ 32) (omega arith) (λ i l e. difference_alike a b x y i h k l (difference_parts a b i l e))

pub difference_knows : (a a' b b' : Bits) → KnowsAll a a' → KnowsAll b b' → KnowsAll (difference_bits a b) (difference_bits a' b')
difference_knows a a' b b' h k = outside_knows (difference_known a b) (difference_open a b) (difference_bits a' b') (λ i l e. bit i l (sym (bit_of_word (difference_open a' b') i l) ∙ e))
  where
    bit : (i : ℕ) → i < 32 → bit_at (difference_open a' b') i ≡ 0 → (bit_at (difference_open a b) i ≡ 0) × (bit_at (difference_known a b) i ≡ bit_at (difference_bits a' b').value i)
    bit i l e =
        let p = difference_parts a' b' i l e in
        let middle = difference_alike a' b' a.value b.value i (agrees_more a a' a.value h (least_agrees a)) (agrees_more b b' b.value k (least_agrees b)) l p in
        let high = difference_alike a' b' (a.value + a.loose) b.value i (agrees_more a a' (a.value + a.loose) h (greatest_agrees a)) (agrees_more b b' b.value k (least_agrees b)) l p in
        let low = difference_alike a' b' a.value (b.value + b.loose) i (agrees_more a a' a.value h (least_agrees a)) (agrees_more b b' (b.value + b.loose) k (greatest_agrees b)) l p in
        let up : bit_at (difference_top a b) i ≡ bit_at (((a.value + a.loose) + (2 ^ 32 - b.value)) % 2 ^ 32) i = same_mod (difference_top a b) (((a.value + a.loose) + (2 ^ 32 - b.value)) % 2 ^ 32) i (omega arith) in
        let down : bit_at (difference_bottom a b) i ≡ bit_at ((a.value + (2 ^ 32 - (b.value + b.loose))) % 2 ^ 32) i = same_mod (difference_bottom a b) ((a.value + (2 ^ 32 - (b.value + b.loose))) % 2 ^ 32) i (let s = b.small in omega (arith, s)) in (
          all_of_three (bit_xor (difference_top a b) (difference_bottom a b)) a.loose b.loose i (alike_xor (difference_top a b) (difference_bottom a b) i (up ∙ high ∙ sym low ∙ sym down)) (h.known i l p.one) (k.known i l p.two),
          middle ∙ sym (value_kept (difference_known a' b') (difference_open a' b') i l e),
        )
      where
        same_mod : (x y i : ℕ) → x ≡ y → bit_at x i ≡ bit_at y i
        same_mod x y i e = ap (λ n. bit_at n i) e
