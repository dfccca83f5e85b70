-- Known bits keep the laws of sets of values.
use Rattle.std.proofs.Common.{◌≡◌, ◌≢◌, ℕ, ◌+◌, ◌%◌, ◌^◌, ◌<◌, ◌≤◌, min, max, true, inl, inr, refl, sym, ap, ◌∙◌, subst, arith, Some, None}
use Rattle.std.specs.Prelude.{bit_and, bit_or, bit_xor}
use Rattle.std.specs.Int.{bit_at}
use Rattle.std.proofs.lemmas.Nat.{and_le_r, or_lt, xor_lt, or_disjoint}
use Rattle.std.proofs.lemmas.Nat.Bits.{bit_at_and, bit_at_or, bit_at_xor, bit_at-lt, bit_at-zero, bit_at_ones, same_from_bits_below}
use Rattle.std.proofs.lemmas.Bool.{cases_eq, eq-eqb, ne_eqb}
use Rattle.rept_known.specs.declared.bits.Bits.{Bits}
use Rattle.rept_known.specs.Masks.{but, but_le, but_split, but_kept, but_cut, bit_cases, bit_of_word}
use Rattle.rept_known.specs.Bits.{outside, bits_has, bits_meet, bits_exact, bits_sets}
use Rattle.rept_partial.specs.Sets.{AreLawful, IsWithin}
use Rattle.rept_partial.specs.Ranges.{word}

-- a word agrees with a set's value wherever no bit is open
pub record Agrees (a : Bits) (x : ℕ) : Type 0 where
  pub small : x < 2 ^ 32
  pub same : (i : ℕ) → i < 32 → bit_at a.loose i ≡ 0 → bit_at x i ≡ bit_at a.value i

-- each bit that the second knows the first knows, and alike
pub record KnowsAll (a b : Bits) : Type 0 where
  pub known : (i : ℕ) → i < 32 → bit_at b.loose i ≡ 0 → bit_at a.loose i ≡ 0
  pub same : (i : ℕ) → i < 32 → bit_at b.loose i ≡ 0 → bit_at a.value i ≡ bit_at b.value i

pub value_small : (a : Bits) → a.value < 2 ^ 32
value_small a = let s = a.small in omega arith

pub loose_small : (a : Bits) → a.loose < 2 ^ 32
loose_small a = let s = a.small in omega arith

-- an open bit isn't set in the value
pub open_bit : (a : Bits) (i : ℕ) → bit_at a.loose i ≡ 1 → bit_at a.value i ≡ 0
open_bit a i e =
    let b = bit_at_and a.value a.loose i in
    let z : bit_at (bit_and a.value a.loose) i ≡ 0 = ap (λ n. bit_at n i) a.apart ∙ bit_at-zero i in
    let l = bit_at-lt a.value i in
    omega (arith, b, z, e, l)

pub has_parts : (a : Bits) (v : ℕ) → bits_has a v ≡ true → (v < 2 ^ 32) × (but v a.loose ≡ a.value)
has_parts a v h = grind (arith, h)

pub parts_has : (a : Bits) (v : ℕ) → v < 2 ^ 32 → but v a.loose ≡ a.value → bits_has a v ≡ true
parts_has a v s e = grind (arith, s, e)

pub has_agrees : (a : Bits) (v : ℕ) → bits_has a v ≡ true → Agrees a v
has_agrees a v h = let p = has_parts a v h in record {
  small = p.0;
  same = λ i l e. sym (but_kept v a.loose i (loose_small a) l e) ∙ ap (λ n. bit_at n i) p.1;
}

pub agrees_has : (a : Bits) (v : ℕ) → Agrees a v → bits_has a v ≡ true
agrees_has a v h = parts_has a v h.small (same_from_bits_below 32 (but v a.loose) a.value (let l = but_le v a.loose in let s = h.small in omega (arith, l)) (value_small a) bit)
  where
    bit : (i : ℕ) → i < 32 → bit_at (but v a.loose) i ≡ bit_at a.value i
    bit i l = elim (bit_cases a.loose i) [
      | inl known ↦ but_kept v a.loose i (loose_small a) l known ∙ h.same i l known
      | inr free ↦ but_cut v a.loose i (loose_small a) l free ∙ sym (open_bit a i free)
    ]

-- the least and the greatest word
pub least_agrees : (a : Bits) → Agrees a a.value
least_agrees a = record { small = value_small a; same = λ i l e. refl }

pub greatest_agrees : (a : Bits) → Agrees a (a.value + a.loose)
greatest_agrees a = record { small = a.small; same = λ i l e. bit i e }
  where
    bit : (i : ℕ) → bit_at a.loose i ≡ 0 → bit_at (a.value + a.loose) i ≡ bit_at a.value i
    bit i e =
        let o : bit_or a.value a.loose ≡ a.value + a.loose = or_disjoint a.value a.loose a.apart in
        let b = bit_at_or a.value a.loose i in
        let f : bit_at (bit_or a.value a.loose) i ≡ bit_at (a.value + a.loose) i = ap (λ n. bit_at n i) o in
        omega (arith, b, e, f)

-- and the greatest one has each open bit
pub greatest_open : (a : Bits) (i : ℕ) → bit_at a.loose i ≡ 1 → bit_at (a.value + a.loose) i ≡ 1
greatest_open a i e =
    let o : bit_or a.value a.loose ≡ a.value + a.loose = or_disjoint a.value a.loose a.apart in
    let b = bit_at_or a.value a.loose i in
    let l = bit_at-lt a.value i in
    let f : bit_at (bit_or a.value a.loose) i ≡ bit_at (a.value + a.loose) i = ap (λ n. bit_at n i) o in
    omega (arith, b, e, l, f)

pub within_knows : (a b : Bits) → IsWithin bits_sets a b → KnowsAll a b
within_knows a b h =
    let low = has_agrees b a.value (h a.value (agrees_has a a.value (least_agrees a))) in
    let high = has_agrees b (a.value + a.loose) (h (a.value + a.loose) (agrees_has a (a.value + a.loose) (greatest_agrees a))) in
    record { known = λ i l e. known i (low.same i l e) (high.same i l e); same = low.same }
  where
    known : (i : ℕ) → bit_at a.value i ≡ bit_at b.value i → bit_at (a.value + a.loose) i ≡ bit_at b.value i → bit_at a.loose i ≡ 0
    known i e f = elim (bit_cases a.loose i) [
      | inl z ↦ z
      | inr o ↦ let p = open_bit a i o in let q = greatest_open a i o in absurd (omega (arith, p, q, e, f))
    ]

pub knows_within : (a b : Bits) → KnowsAll a b → IsWithin bits_sets a b
knows_within a b h v t =
    let g = has_agrees a v t in
    agrees_has b v (record { small = g.small; same = λ i l e. g.same i l (h.known i l e) ∙ h.same i l e })

-- ---- words that agree with a number outside some bits
pub value_kept : (v loose i : ℕ) → i < 32 → bit_at loose i ≡ 0 → bit_at (outside v loose).value i ≡ bit_at v i
value_kept v loose i l e = but_kept (word v) (word loose) i (omega arith) l (bit_of_word loose i l ∙ e) ∙ bit_of_word v i l

pub in_outside : (v loose x : ℕ) → x < 2 ^ 32 → ((i : ℕ) → i < 32 → bit_at loose i ≡ 0 → bit_at x i ≡ bit_at v i) → Agrees (outside v loose) x
in_outside v loose x s h = record { small = s; same = λ i l e. let f : bit_at loose i ≡ 0 = sym (bit_of_word loose i l) ∙ e in h i l f ∙ sym (value_kept v loose i l f) }

pub outside_same : (v loose x i : ℕ) → Agrees (outside v loose) x → i < 32 → bit_at loose i ≡ 0 → bit_at x i ≡ bit_at v i
outside_same v loose x i h l e = h.same i l (bit_of_word loose i l ∙ e) ∙ value_kept v loose i l e

pub outside_knows : (v loose : ℕ) (b : Bits) → ((i : ℕ) → i < 32 → bit_at b.loose i ≡ 0 → (bit_at loose i ≡ 0) × (bit_at v i ≡ bit_at b.value i)) → KnowsAll (outside v loose) b
outside_knows v loose b h = record { known = λ i l e. bit_of_word loose i l ∙ (h i l e).0; same = λ i l e. value_kept v loose i l (h i l e).0 ∙ (h i l e).1 }

-- ---- the laws
pub all_agree : (v : ℕ) → v < 2 ^ 32 → Agrees (outside 0 4294967295) v
all_agree v s = in_outside 0 4294967295 v s (λ i l e. let o = bit_at_ones 32 i l in absurd (omega (arith, o, e)))

pub one_agrees : (v : ℕ) → v < 2 ^ 32 → Agrees (outside v 0) v
one_agrees v s = in_outside v 0 v s (λ i l e. refl)

one_alone : (v u : ℕ) → v < 2 ^ 32 → Agrees (outside v 0) u → u ≡ v
one_alone v u s h = same_from_bits_below 32 u v h.small s (λ i l. outside_same v 0 u i h l (bit_at-zero i))

-- no bit that both know differs
abbrev Apart : Bits → Bits → ℕ
Apart a b = but (bit_xor a.value b.value) (bit_or a.loose b.loose)

some_none : {W : Type 0} {x : W} → Some x ≡ None → ⊥
some_none e = cc

same_some : {W : Type 0} {x y : W} → Some x ≡ Some y → x ≡ y
same_some e = cc

met : (a b c : Bits) → bits_meet a b ≡ Some c → outside (bit_or a.value b.value) (bit_and a.loose b.loose) ≡ c
met a b c e = elim (cases_eq (Apart a b) 0) [
  | inl z ↦ same_some (rw (eq-eqb (Apart a b) 0 z) at e)
  | inr ne ↦ absurd (some_none (sym (rw (ne_eqb (Apart a b) 0 ne) at e)))
]

met_apart : (a b c : Bits) → bits_meet a b ≡ Some c → Apart a b ≡ 0
met_apart a b c e = elim (cases_eq (Apart a b) 0) [
  | inl z ↦ z
  | inr ne ↦ absurd (some_none (sym (rw (ne_eqb (Apart a b) 0 ne) at e)))
]

not_met : (a b : Bits) → bits_meet a b ≡ None → Apart a b ≢ 0
not_met a b e z = some_none (rw (eq-eqb (Apart a b) 0 z) at e)

common_bit : (la lb va vb v : ℕ) → min la lb ≡ 0 → la < 2 → lb < 2 → (la ≡ 0 → v ≡ va) → (lb ≡ 0 → v ≡ vb) → (la ≡ 1 → va ≡ 0) → (lb ≡ 1 → vb ≡ 0) → v ≡ max va vb
common_bit la lb va vb v none p q x y z w = elim (cases_eq la 0) [
  | inl e ↦ elim (cases_eq lb 0) [
    | inl f ↦ let s = x e in let t = y f in omega (arith, s, t)
    | inr f ↦ let s = x e in let t = w (omega (arith, q, f)) in omega (arith, s, t)
  ]
  | inr e ↦ let s = z (omega (arith, p, e)) in let t = y (omega (arith, none, e)) in omega (arith, s, t)
]

common : (a b : Bits) (v i : ℕ) → Agrees a v → Agrees b v → i < 32 → bit_at (bit_and a.loose b.loose) i ≡ 0 → bit_at v i ≡ bit_at (bit_or a.value b.value) i
common a b v i p q l f =
    common_bit (bit_at a.loose i) (bit_at b.loose i) (bit_at a.value i) (bit_at b.value i) (bit_at v i) (sym (bit_at_and a.loose b.loose i) ∙ f) (bit_at-lt a.loose i) (bit_at-lt b.loose i) (p.same i l) (q.same i l) (open_bit a i) (open_bit b i)
    ∙ sym (bit_at_or a.value b.value i)

known_alike : (a b : Bits) (i : ℕ) → Apart a b ≡ 0 → i < 32 → bit_at a.loose i ≡ 0 → bit_at b.loose i ≡ 0 → bit_at a.value i ≡ bit_at b.value i
known_alike a b i z l e f =
    let o = bit_at_or a.loose b.loose i in
    let k = but_kept (bit_xor a.value b.value) (bit_or a.loose b.loose) i (or_lt 32 a.loose b.loose (loose_small a) (loose_small b)) l (omega (arith, o, e, f)) in
    let n : bit_at (Apart a b) i ≡ 0 = ap (λ x. bit_at x i) z ∙ bit_at-zero i in
    let x = bit_at_xor a.value b.value i in
    let c = bit_at-lt a.value i in
    let d = bit_at-lt b.value i in
    omega (arith, k, n, x, c, d)

-- a bit that the one knows is that of the common words
alike_bit : (lb va vb : ℕ) → lb < 2 → (lb ≡ 0 → va ≡ vb) → (lb ≡ 1 → vb ≡ 0) → max va vb ≡ va
alike_bit lb va vb q x y = elim (cases_eq lb 0) [
  | inl e ↦ let s = x e in omega (arith, s)
  | inr e ↦ let s = y (omega (arith, q, e)) in omega (arith, s)
]

from_common : (a b : Bits) (i : ℕ) → Apart a b ≡ 0 → i < 32 → bit_at a.loose i ≡ 0 → bit_at (bit_or a.value b.value) i ≡ bit_at a.value i
from_common a b i z l e = bit_at_or a.value b.value i ∙ alike_bit (bit_at b.loose i) (bit_at a.value i) (bit_at b.value i) (bit_at-lt b.loose i) (known_alike a b i z l e) (open_bit b i)

max_comm : (m n : ℕ) → max m n ≡ max n m
max_comm m n = omega arith

from_common_too : (a b : Bits) (i : ℕ) → Apart a b ≡ 0 → i < 32 → bit_at b.loose i ≡ 0 → bit_at (bit_or a.value b.value) i ≡ bit_at b.value i
from_common_too a b i z l e = bit_at_or a.value b.value i ∙ max_comm (bit_at a.value i) (bit_at b.value i) ∙ alike_bit (bit_at a.loose i) (bit_at b.value i) (bit_at a.value i) (bit_at-lt a.loose i) (λ f. sym (known_alike a b i z l f e)) (open_bit a i)

same_bits_even : (m n : ℕ) → m ≡ n → (m + n) % 2 ≡ 0
same_bits_even m n e = omega arith

all_alike : (a b : Bits) (v : ℕ) → Agrees a v → Agrees b v → Apart a b ≡ 0
all_alike a b v p q = same_from_bits_below 32 (Apart a b) 0 (let t = xor_lt 32 a.value b.value (value_small a) (value_small b) in let u = but_le (bit_xor a.value b.value) (bit_or a.loose b.loose) in omega (arith, t, u)) (omega arith) (λ i l. bit i l ∙ sym (bit_at-zero i))
  where
    mask : bit_or a.loose b.loose < 2 ^ 32
    mask = or_lt 32 a.loose b.loose (loose_small a) (loose_small b)

    bit : (i : ℕ) → i < 32 → bit_at (Apart a b) i ≡ 0
    bit i l = elim (bit_cases (bit_or a.loose b.loose) i) [
      | inr free ↦ but_cut (bit_xor a.value b.value) (bit_or a.loose b.loose) i mask l free
      | inl known ↦
          let o = bit_at_or a.loose b.loose i in
          let e : bit_at a.loose i ≡ 0 = omega (arith, o, known) in
          let f : bit_at b.loose i ≡ 0 = omega (arith, o, known) in
          but_kept (bit_xor a.value b.value) (bit_or a.loose b.loose) i mask l known ∙ bit_at_xor a.value b.value i ∙ same_bits_even (bit_at a.value i) (bit_at b.value i) (sym (p.same i l e) ∙ q.same i l f)
    ]

meet_some : (a b c : Bits) (v : ℕ) → bits_meet a b ≡ Some c → bits_has a v ≡ true → bits_has b v ≡ true → bits_has c v ≡ true
meet_some a b c v e ha hb =
    let p = has_agrees a v ha in
    let q = has_agrees b v hb in
    subst (λ (x : Bits). bits_has x v ≡ true) (met a b c e)
    (agrees_has (outside (bit_or a.value b.value) (bit_and a.loose b.loose)) v (in_outside (bit_or a.value b.value) (bit_and a.loose b.loose) v p.small (λ i l f. common a b v i p q l f)))

meet_within : (a b c : Bits) (v : ℕ) → bits_meet a b ≡ Some c → bits_has c v ≡ true → (bits_has a v ≡ true) × (bits_has b v ≡ true)
meet_within a b c v e h =
    let z = met_apart a b c e in
    let p = has_agrees (outside (bit_or a.value b.value) (bit_and a.loose b.loose)) v (subst (λ (x : Bits). bits_has x v ≡ true) (sym (met a b c e)) h) in (
      agrees_has a v (record { small = p.small; same = λ i l f. outside_same (bit_or a.value b.value) (bit_and a.loose b.loose) v i p l (let n = bit_at_and a.loose b.loose i in omega (arith, n, f)) ∙ from_common a b i z l f }),
      agrees_has b v (record { small = p.small; same = λ i l f. outside_same (bit_or a.value b.value) (bit_and a.loose b.loose) v i p l (let n = bit_at_and a.loose b.loose i in omega (arith, n, f)) ∙ from_common_too a b i z l f }),
    )

pub bits_lawful : AreLawful bits_sets
bits_lawful = record { some = λ a. (a.value, agrees_has a a.value (least_agrees a)); words = λ a v h. (has_parts a v h).0; unknown = λ v s. agrees_has (outside 0 4294967295) v (all_agree v s); exact = λ v s. agrees_has (outside v 0) v (one_agrees v s); exact_only = λ v u s h. one_alone v u s (has_agrees (outside v 0) u h); meet_some = meet_some; meet_within = meet_within; meet_none = meet_none; as_exact = as_exact; is_exact = is_exact; bounds = bounds; ordered = λ a. omega arith; small = λ a. a.small; bounds_within = bounds_within }
  where
    meet_none : (a b : Bits) (v : ℕ) → bits_meet a b ≡ None → bits_has a v ≡ true → bits_has b v ≡ true → ⊥
    meet_none a b v e ha hb = not_met a b e (all_alike a b v (has_agrees a v ha) (has_agrees b v hb))

    one_value : (a : Bits) (u : ℕ) → a.loose ≡ 0 → Agrees a u → u ≡ a.value
    one_value a u z h = same_from_bits_below 32 u a.value h.small (value_small a) (λ i l. h.same i l (ap (λ n. bit_at n i) z ∙ bit_at-zero i))

    as_exact : (a : Bits) (v u : ℕ) → bits_exact a ≡ Some v → bits_has a u ≡ true → u ≡ v
    as_exact a v u e h = elim (cases_eq a.loose 0) [
      | inl z ↦ one_value a u z (has_agrees a u h) ∙ some_number (rw (eq-eqb a.loose 0 z) at e)
      | inr ne ↦ absurd (no_number (sym (rw (ne_eqb a.loose 0 ne) at e)))
    ]
      where
        some_number : {x y : ℕ} → Some x ≡ Some y → x ≡ y
        some_number e = cc

        no_number : {x : ℕ} → Some x ≡ None → ⊥
        no_number e = cc

    is_exact : (a : Bits) (v : ℕ) → ((u : ℕ) → bits_has a u ≡ true → u ≡ v) → bits_exact a ≡ Some v
    is_exact a v h =
        let l : a.value ≡ v = h a.value (agrees_has a a.value (least_agrees a)) in
        let g : a.value + a.loose ≡ v = h (a.value + a.loose) (agrees_has a (a.value + a.loose) (greatest_agrees a)) in
        let z : a.loose ≡ 0 = omega (arith, l, g) in
        rw (eq-eqb a.loose 0 z) (ap (λ (n : ℕ). Some n) l)

    bounds : (a : Bits) (v : ℕ) → bits_has a v ≡ true → (a.value ≤ v) × (v ≤ a.value + a.loose)
    bounds a v h =
        let p = has_parts a v h in
        let e = p.1 in
        let s = but_split v a.loose p.0 (loose_small a) in
        let m = and_le_r v a.loose in
        (omega (arith, e, s), omega (arith, e, s, m))

    bounds_within : (a b : Bits) → IsWithin bits_sets a b → (b.value ≤ a.value) × (a.value + a.loose ≤ b.value + b.loose)
    bounds_within a b h = ((bounds b a.value (h a.value (agrees_has a a.value (least_agrees a)))).0, (bounds b (a.value + a.loose) (h (a.value + a.loose) (agrees_has a (a.value + a.loose) (greatest_agrees a)))).1)
