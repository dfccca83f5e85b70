-- Operations that join two words bit by bit.
use Rattle.std.proofs.Common.{◌≡◌, ◌≢◌, ℕ, ◌+◌, ◌-◌, ◌%◌, ◌^◌, ◌<◌, ◌≤◌, min, max, inl, inr, sym, ap, ◌∙◌, arith}
use Rattle.std.specs.Prelude.{bit_and, bit_or, bit_xor}
use Rattle.std.specs.Int.{bit_at}
use Rattle.std.proofs.lemmas.Nat.{and_le_l, or_lt, xor_lt}
use Rattle.std.proofs.lemmas.Nat.Bits.{bit_at_and, bit_at_or, bit_at_xor, bit_at-lt, bit_at-zero}
use Rattle.std.proofs.lemmas.Bool.{cases_eq}
use Rattle.rept_known.specs.declared.bits.Bits.{Bits}
use Rattle.rept_known.specs.Masks.{but, but_bit, bit_of_word}
use Rattle.rept_known.specs.Bits.{outside}
use Rattle.rept_known.specs.Laws.BitsLaws.{Agrees, KnowsAll, value_small, open_bit, in_outside, outside_knows, value_kept}
use Rattle.rept_known.specs.Operations.{and_bits, or_bits, xor_bits}

-- a bit (its value and whether it is open) is known where another one is, and alike
record KnowsBit (v m v' m' : ℕ) : Type 0 where
  one : v < 2
  one' : v' < 2
  flag : m < 2
  flag' : m' < 2
  apart : m ≡ 1 → v ≡ 0
  apart' : m' ≡ 1 → v' ≡ 0
  known : m' ≡ 0 → m ≡ 0
  same : m' ≡ 0 → v ≡ v'

-- what the operation makes of bits, and which of them it leaves open
record JoinsBits (value : ℕ → ℕ → ℕ) (free : ℕ → ℕ → ℕ → ℕ → ℕ) : Type 0 where
  small : (x y : ℕ) → x < 2 ^ 32 → y < 2 ^ 32 → value x y < 2 ^ 32
  knows : (v m v' m' w k w' k' i : ℕ) → i < 32 → v < 2 ^ 32 → w < 2 ^ 32 → v' < 2 ^ 32 → w' < 2 ^ 32 → KnowsBit (bit_at v i) (bit_at m i) (bit_at v' i) (bit_at m' i) → KnowsBit (bit_at w i) (bit_at k i) (bit_at w' i) (bit_at k' i) → bit_at (free v' m' w' k') i ≡ 0 → (bit_at (free v m w k) i ≡ 0) × (bit_at (value v w) i ≡ bit_at (value v' w') i)

not_zero : (n : ℕ) → n ≡ 0 → n ≡ 1 → ⊥
not_zero n e f = omega arith

-- a word is known wherever a set is that has it
word_bit : (a : Bits) (x i : ℕ) → i < 32 → Agrees a x → KnowsBit (bit_at x i) (bit_at 0 i) (bit_at a.value i) (bit_at a.loose i)
word_bit a x i l h = record {
  one = bit_at-lt x i;
  one' = bit_at-lt a.value i;
  flag = bit_at-lt 0 i;
  flag' = bit_at-lt a.loose i;
  apart = λ e. absurd (not_zero (bit_at 0 i) (bit_at-zero i) e);
  apart' = open_bit a i;
  known = λ e. bit_at-zero i;
  same = h.same i l;
}

all_bit : (a b : Bits) (i : ℕ) → i < 32 → KnowsAll a b → KnowsBit (bit_at a.value i) (bit_at a.loose i) (bit_at b.value i) (bit_at b.loose i)
all_bit a b i l h = record {
  one = bit_at-lt a.value i;
  one' = bit_at-lt b.value i;
  flag = bit_at-lt a.loose i;
  flag' = bit_at-lt b.loose i;
  apart = open_bit a i;
  apart' = open_bit b i;
  known = h.known i l;
  same = h.same i l;
}

module _ (value : ℕ → ℕ → ℕ) (free : ℕ → ℕ → ℕ → ℕ → ℕ) (j : JoinsBits value free) where
  joined_covers : (a b : Bits) (x y : ℕ) → Agrees a x → Agrees b y → Agrees (outside (value a.value b.value) (free a.value a.loose b.value b.loose)) (value x y)
  joined_covers a b x y h k =
      in_outside (value a.value b.value) (free a.value a.loose b.value b.loose) (value x y) (j.small x y h.small k.small)
      (λ i l e. (j.knows x 0 a.value a.loose y 0 b.value b.loose i l h.small k.small (value_small a) (value_small b) (word_bit a x i l h) (word_bit b y i l k) e).1)

  joined_knows : (a a' b b' : Bits) → KnowsAll a a' → KnowsAll b b' → KnowsAll (outside (value a.value b.value) (free a.value a.loose b.value b.loose)) (outside (value a'.value b'.value) (free a'.value a'.loose b'.value b'.loose))
  joined_knows a a' b b' h k =
      outside_knows (value a.value b.value) (free a.value a.loose b.value b.loose) (outside (value a'.value b'.value) (free a'.value a'.loose b'.value b'.loose))
      (λ i l e. bit i l (sym (bit_of_word (free a'.value a'.loose b'.value b'.loose) i l) ∙ e))
    where
      bit : (i : ℕ) → i < 32 → bit_at (free a'.value a'.loose b'.value b'.loose) i ≡ 0 → (bit_at (free a.value a.loose b.value b.loose) i ≡ 0) × (bit_at (value a.value b.value) i ≡ bit_at (outside (value a'.value b'.value) (free a'.value a'.loose b'.value b'.loose)).value i)
      bit i l e =
          let p = j.knows a.value a.loose a'.value a'.loose b.value b.loose b'.value b'.loose i l (value_small a) (value_small b) (value_small a') (value_small b') (all_bit a a' i l h) (all_bit b b' i l k) e in
          (p.0, p.1 ∙ sym (value_kept (value a'.value b'.value) (free a'.value a'.loose b'.value b'.loose) i l e))

-- ---- conjunctions
abbrev and_free : ℕ → ℕ → ℕ → ℕ → ℕ
and_free v m w k = but (bit_and (bit_or v m) (bit_or w k)) (bit_and v w)

and_free_bit : (v m w k i : ℕ) → i < 32 → v < 2 ^ 32 → bit_at (and_free v m w k) i ≡ min (min (max (bit_at v i) (bit_at m i)) (max (bit_at w i) (bit_at k i))) (1 - min (bit_at v i) (bit_at w i))
and_free_bit v m w k i l s =
    but_bit (bit_and (bit_or v m) (bit_or w k)) (bit_and v w) i (below (and_le_l v w)) l
    ∙ ap (λ n. min n (1 - bit_at (bit_and v w) i)) (bit_at_and (bit_or v m) (bit_or w k) i)
    ∙ ap (λ n. min (min n (bit_at (bit_or w k) i)) (1 - bit_at (bit_and v w) i)) (bit_at_or v m i)
    ∙ ap (λ n. min (min (max (bit_at v i) (bit_at m i)) n) (1 - bit_at (bit_and v w) i)) (bit_at_or w k i)
    ∙ ap (λ n. min (min (max (bit_at v i) (bit_at m i)) (max (bit_at w i) (bit_at k i))) (1 - n)) (bit_at_and v w i)
  where
    below : bit_and v w ≤ v → bit_and v w < 2 ^ 32
    below l = omega arith

is_one : (n : ℕ) → n < 2 → n ≢ 0 → n ≡ 1
is_one n l ne = omega arith

and_known : (v m v' m' w k w' k' : ℕ) → KnowsBit v m v' m' → KnowsBit w k w' k' → min (min (max v' m') (max w' k')) (1 - min v' w') ≡ 0 → (min (min (max v m) (max w k)) (1 - min v w) ≡ 0) × (min v w ≡ min v' w')
and_known v m v' m' w k w' k' h g e = elim (cases_eq m' 0) [
  | inl none ↦ elim (cases_eq k' 0) [
    | inl none' ↦ both (h.known none) (h.same none) (g.known none') (g.same none') h.one g.one
    | inr some' ↦
        let one = is_one k' g.flag' some' in
        let zero = g.apart' one in
        second (h.known none) (h.same none) (omega (arith, one, zero, none, e)) zero
  ]
  | inr some ↦
      let one = is_one m' h.flag' some in
      let zero = h.apart' one in
      let none' : k' ≡ 0 = omega (arith, one, zero, e) in
      first (g.known none') (g.same none') (omega (arith, one, zero, e)) zero
]
  where
    both : m ≡ 0 → v ≡ v' → k ≡ 0 → w ≡ w' → v < 2 → w < 2 → (min (min (max v m) (max w k)) (1 - min v w) ≡ 0) × (min v w ≡ min v' w')
    both p q r s x y = (omega arith, omega arith)

    second : m ≡ 0 → v ≡ v' → v' ≡ 0 → w' ≡ 0 → (min (min (max v m) (max w k)) (1 - min v w) ≡ 0) × (min v w ≡ min v' w')
    second p q r s = (omega arith, omega arith)

    first : k ≡ 0 → w ≡ w' → w' ≡ 0 → v' ≡ 0 → (min (min (max v m) (max w k)) (1 - min v w) ≡ 0) × (min v w ≡ min v' w')
    first p q r s = (omega arith, omega arith)

and_small : (x y : ℕ) → x < 2 ^ 32 → bit_and x y < 2 ^ 32
and_small x y s = let l = and_le_l x y in omega (arith, l)

and_joins : JoinsBits (λ x y. bit_and x y) and_free
and_joins = record {
  small = λ x y s t. and_small x y s;
  knows = λ v m v' m' w k w' k' i l s t s' t' h g e.
      let p = and_known (bit_at v i) (bit_at m i) (bit_at v' i) (bit_at m' i) (bit_at w i) (bit_at k i) (bit_at w' i) (bit_at k' i) h g (sym (and_free_bit v' m' w' k' i l s') ∙ e) in
      (and_free_bit v m w k i l s ∙ p.0, bit_at_and v w i ∙ p.1 ∙ sym (bit_at_and v' w' i));
}

pub and_covers : (a b : Bits) (x y : ℕ) → Agrees a x → Agrees b y → Agrees (and_bits a b) (bit_and x y)
and_covers a b x y h k = joined_covers (λ x y. bit_and x y) and_free and_joins a b x y h k

pub and_knows : (a a' b b' : Bits) → KnowsAll a a' → KnowsAll b b' → KnowsAll (and_bits a b) (and_bits a' b')
and_knows a a' b b' h k = joined_knows (λ x y. bit_and x y) and_free and_joins a a' b b' h k

-- ---- disjunctions
abbrev or_free : ℕ → ℕ → ℕ → ℕ → ℕ
or_free v m w k = but (bit_or m k) (bit_or v w)

or_free_bit : (v m w k i : ℕ) → i < 32 → v < 2 ^ 32 → w < 2 ^ 32 → bit_at (or_free v m w k) i ≡ min (max (bit_at m i) (bit_at k i)) (1 - max (bit_at v i) (bit_at w i))
or_free_bit v m w k i l s t =
    but_bit (bit_or m k) (bit_or v w) i (or_lt 32 v w s t) l
    ∙ ap (λ n. min n (1 - bit_at (bit_or v w) i)) (bit_at_or m k i)
    ∙ ap (λ n. min (max (bit_at m i) (bit_at k i)) (1 - n)) (bit_at_or v w i)

or_known : (v m v' m' w k w' k' : ℕ) → KnowsBit v m v' m' → KnowsBit w k w' k' → min (max m' k') (1 - max v' w') ≡ 0 → (min (max m k) (1 - max v w) ≡ 0) × (max v w ≡ max v' w')
or_known v m v' m' w k w' k' h g e = elim (cases_eq m' 0) [
  | inl none ↦ elim (cases_eq k' 0) [
    | inl none' ↦ both (h.known none) (h.same none) (g.known none') (g.same none')
    | inr some' ↦
        let one = is_one k' g.flag' some' in
        let zero = g.apart' one in
        let set : v' ≡ 1 = let l = h.one' in omega (arith, one, zero, none, e, l) in
        second (h.known none) (h.same none) set zero g.one
  ]
  | inr some ↦
      let one = is_one m' h.flag' some in
      let zero = h.apart' one in
      let set : w' ≡ 1 = let l = g.one' in omega (arith, one, zero, e, l) in
      let none' : k' ≡ 0 = elim (cases_eq k' 0) [ inl z ↦ z | inr ne ↦ let f = g.apart' (is_one k' g.flag' ne) in absurd (not_zero w' f set) ] in
      first (g.known none') (g.same none') set zero h.one
]
  where
    both : m ≡ 0 → v ≡ v' → k ≡ 0 → w ≡ w' → (min (max m k) (1 - max v w) ≡ 0) × (max v w ≡ max v' w')
    both p q r s = (omega arith, omega arith)

    second : m ≡ 0 → v ≡ v' → v' ≡ 1 → w' ≡ 0 → w < 2 → (min (max m k) (1 - max v w) ≡ 0) × (max v w ≡ max v' w')
    second p q r s l = (omega arith, omega arith)

    first : k ≡ 0 → w ≡ w' → w' ≡ 1 → v' ≡ 0 → v < 2 → (min (max m k) (1 - max v w) ≡ 0) × (max v w ≡ max v' w')
    first p q r s l = (omega arith, omega arith)

or_joins : JoinsBits (λ x y. bit_or x y) or_free
or_joins = record {
  small = λ x y s t. or_lt 32 x y s t;
  knows = λ v m v' m' w k w' k' i l s t s' t' h g e.
      let p = or_known (bit_at v i) (bit_at m i) (bit_at v' i) (bit_at m' i) (bit_at w i) (bit_at k i) (bit_at w' i) (bit_at k' i) h g (sym (or_free_bit v' m' w' k' i l s' t') ∙ e) in
      (or_free_bit v m w k i l s t ∙ p.0, bit_at_or v w i ∙ p.1 ∙ sym (bit_at_or v' w' i));
}

pub or_covers : (a b : Bits) (x y : ℕ) → Agrees a x → Agrees b y → Agrees (or_bits a b) (bit_or x y)
or_covers a b x y h k = joined_covers (λ x y. bit_or x y) or_free or_joins a b x y h k

pub or_knows : (a a' b b' : Bits) → KnowsAll a a' → KnowsAll b b' → KnowsAll (or_bits a b) (or_bits a' b')
or_knows a a' b b' h k = joined_knows (λ x y. bit_or x y) or_free or_joins a a' b b' h k

-- ---- exclusive disjunctions
abbrev xor_free : ℕ → ℕ → ℕ → ℕ → ℕ
xor_free v m w k = bit_or m k

xor_known : (v m v' m' w k w' k' : ℕ) → KnowsBit v m v' m' → KnowsBit w k w' k' → max m' k' ≡ 0 → (max m k ≡ 0) × ((v + w) % 2 ≡ (v' + w') % 2)
xor_known v m v' m' w k w' k' h g e =
    let none : m' ≡ 0 = omega (arith, e) in
    let none' : k' ≡ 0 = omega (arith, e) in
    both (h.known none) (h.same none) (g.known none') (g.same none')
  where
    both : m ≡ 0 → v ≡ v' → k ≡ 0 → w ≡ w' → (max m k ≡ 0) × ((v + w) % 2 ≡ (v' + w') % 2)
    both p q r s = (omega arith, omega arith)

xor_joins : JoinsBits (λ x y. bit_xor x y) xor_free
xor_joins = record {
  small = λ x y s t. xor_lt 32 x y s t;
  knows = λ v m v' m' w k w' k' i l s t s' t' h g e.
      let p = xor_known (bit_at v i) (bit_at m i) (bit_at v' i) (bit_at m' i) (bit_at w i) (bit_at k i) (bit_at w' i) (bit_at k' i) h g (sym (bit_at_or m' k' i) ∙ e) in
      (bit_at_or m k i ∙ p.0, bit_at_xor v w i ∙ p.1 ∙ sym (bit_at_xor v' w' i));
}

pub xor_covers : (a b : Bits) (x y : ℕ) → Agrees a x → Agrees b y → Agrees (xor_bits a b) (bit_xor x y)
xor_covers a b x y h k = joined_covers (λ x y. bit_xor x y) xor_free xor_joins a b x y h k

pub xor_knows : (a a' b b' : Bits) → KnowsAll a a' → KnowsAll b b' → KnowsAll (xor_bits a b) (xor_bits a' b')
xor_knows a a' b b' h k = joined_knows (λ x y. bit_xor x y) xor_free xor_joins a a' b b' h k
