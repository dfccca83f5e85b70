-- Reduced sets keep the laws of sets of values.
use Rattle.std.proofs.Common.{◌≡◌, ◌≢◌, ℕ, zero, suc, ◌+◌, ◌-◌, ◌*◌, ◌/◌, ◌%◌, ◌^◌, ◌<◌, ◌≤◌, ◌⊎◌, min, max, Bool, true, false, inl, inr, refl, sym, ap, ◌∙◌, subst, arith, Option, Some, None}
use Rattle.std.specs.Prelude.{◌&&◌, bit_and, bit_or, bit_xor}
use Rattle.std.specs.Int.{bit_at}
use Rattle.std.proofs.Math.Nat.{pow-suc, div-eq_of_lt, div-eq_of_lt-le}
use Rattle.std.specs.Int.Bits.{or_zero_r, xor_self}
use Rattle.std.proofs.lemmas.Nat.{pow_pos, pow_below, and_le_l, or_shr, xor_shr, or_lt, xor_lt, or_disjoint, le_or_l}
use Rattle.std.proofs.lemmas.Nat.Bits.{bit_at_and, bit_at_or, bit_at_xor, bit_at-lt, bit_at-zero, bit_at_above, and_pow, bit_at-pow_same, bit_at-pow_other}
use Rattle.std.proofs.lemmas.Bool.{cases_lt, eq-eqb, and_parts}
use Rattle.rept_partial.specs.declared.range.Range.{Range}
use Rattle.rept_partial.specs.Sets.{AreLawful, IsWithin}
use Rattle.rept_partial.specs.Ranges.{range_has, range_meet, range_exact, range_sets, range_lawful}
use Rattle.rept_span.specs.Tables.{digits, cover}
use Rattle.rept_span.specs.Laws.RangeBounds.{has_in, in_has, lies_within, div_more, digits_hold}
use Rattle.rept_known.specs.declared.bits.Bits.{Bits}
use Rattle.rept_known.specs.declared.both.Both.{Both}
use Rattle.rept_known.specs.Masks.{but, but_le, but_split, but_bit, bit_cases}
use Rattle.rept_known.specs.Laws.Tops.{same_by_xor, top_clear, top_set, left_ordered, upper_less, cover_none}
use Rattle.rept_known.specs.Bits.{outside, bits_has, bits_meet, bits_sets}
use Rattle.rept_known.specs.Laws.BitsLaws.{Agrees, has_agrees, agrees_has, knows_within, in_outside, outside_same, all_agree, one_agrees, bits_lawful}
use Rattle.rept_known.specs.Laws.Selected.{right_bit}
use Rattle.rept_known.specs.Operations.{all_open, all_known}
use Rattle.rept_known.specs.Both.{both_has, open_between, closed_between, alike_above, between, whole, least_has, greatest_has, in_order, Least, Greatest, least_of, greatest_of, if_ordered, from_ends, reduced, reduced_if, both_meet, both_sets, Differ, IsReduced}

pub both_parts : (a : Both) (v : ℕ) → both_has a v ≡ true → (range_has a.range v ≡ true) × (bits_has a.bits v ≡ true)
both_parts a v h = let p = and_parts (range_has a.range v) (bits_has a.bits v) h in (p.0, p.1)

join_true : (p q : Bool) → p ≡ true → q ≡ true → (p && q) ≡ true
join_true true true e f = refl
join_true true false e f = f
join_true false q e f = e

pub parts_both : (a : Both) (v : ℕ) → range_has a.range v ≡ true → bits_has a.bits v ≡ true → both_has a v ≡ true
parts_both a v p q = join_true (range_has a.range v) (bits_has a.bits v) p q

-- its range ends in words of it
pub lowest_has : (a : Both) → both_has a a.range.lo ≡ true
lowest_has a = parts_both a a.range.lo (in_has a.range a.range.lo (record { low = omega arith; high = a.range.ordered })) a.least

pub highest_has : (a : Both) → both_has a a.range.hi ≡ true
highest_has a = parts_both a a.range.hi (in_has a.range a.range.hi (record { low = a.range.ordered; high = omega arith })) a.greatest

-- ---- the words of a set from one to another
-- words between two that agree from a bit on agree with them there
between_agree : (lo hi v n i : ℕ) → lo ≤ v → v ≤ hi → lo / 2 ^ n ≡ hi / 2 ^ n → n ≤ i → bit_at v i ≡ bit_at lo i
between_agree lo hi v n i p q e le =
    let f = div_more lo v (2 ^ n) p (pow_pos n) in
    let g = div_more v hi (2 ^ n) q (pow_pos n) in
    let same : v / 2 ^ n ≡ lo / 2 ^ n = omega (arith, e, f, g) in
    let at : i ≡ i - n + n = omega arith in
    ap (λ j. bit_at v j) at ∙ sym (right_bit v n (i - n)) ∙ ap (λ x. bit_at x (i - n)) same ∙ right_bit lo n (i - n) ∙ ap (λ j. bit_at lo j) (sym at)

-- two words agree from the first bit on above all in which they differ
same_above : (lo hi : ℕ) → lo < 2 ^ 32 → hi < 2 ^ 32 → lo / 2 ^ digits (bit_xor lo hi) ≡ hi / 2 ^ digits (bit_xor lo hi)
same_above lo hi s t =
    let n = digits (bit_xor lo hi) in
    let d = (digits_hold (bit_xor lo hi) (xor_lt 32 lo hi s t)).0 in
    same_by_xor (lo / 2 ^ n) (hi / 2 ^ n) (sym (xor_shr lo hi n) ∙ div-eq_of_lt d)

inside_agrees : (b : Bits) (lo hi v : ℕ) → bits_has b lo ≡ true → bits_has b hi ≡ true → lo ≤ v → v ≤ hi → bits_has b v ≡ true → Agrees (outside lo (open_between b lo hi)) v
inside_agrees b lo hi v p q l g h =
    let x = has_agrees b lo p in
    let y = has_agrees b hi q in
    let z = has_agrees b v h in
    in_outside lo (open_between b lo hi) v z.small
    (λ i k e. elim (closed_between b lo hi i e) [
      | inl known ↦ z.same i k known ∙ sym (x.same i k known)
      | inr above ↦ between_agree lo hi v (digits (bit_xor lo hi)) i l g (same_above lo hi x.small y.small) (alike_above lo hi i x.small y.small above)
    ])

agrees_inside : (b : Bits) (lo hi v : ℕ) → bits_has b lo ≡ true → Agrees (outside lo (open_between b lo hi)) v → bits_has b v ≡ true
agrees_inside b lo hi v p h =
    let x = has_agrees b lo p in
    agrees_has b v (record { small = h.small; same = λ i l e. outside_same lo (open_between b lo hi) v i h l (none i e) ∙ x.same i l e })
  where
    cut : (p q r : ℕ) → p ≡ min q r → q ≡ 0 → p ≡ 0
    cut p q r e f = omega arith

    none : (i : ℕ) → bit_at b.loose i ≡ 0 → bit_at (open_between b lo hi) i ≡ 0
    none i e = cut (bit_at (open_between b lo hi) i) (bit_at b.loose i) (bit_at (cover (bit_xor lo hi)) i) (bit_at_and b.loose (cover (bit_xor lo hi)) i) e

module _ (b : Bits) (lo hi : ℕ) (p : bits_has b lo ≡ true) (q : bits_has b hi ≡ true) (le : lo ≤ hi) where
  pub between_has : (v : ℕ) → lo ≤ v → v ≤ hi → bits_has b v ≡ true → both_has (between b lo hi p q le) v ≡ true
  between_has v l g h =
      parts_both (between b lo hi p q le) v (in_has (between b lo hi p q le).range v (record { low = l; high = g }))
      (agrees_has (outside lo (open_between b lo hi)) v (inside_agrees b lo hi v p q l g h))

  pub has_between : (v : ℕ) → both_has (between b lo hi p q le) v ≡ true → (lo ≤ v) × (v ≤ hi) × (bits_has b v ≡ true)
  has_between v h =
      let parts = both_parts (between b lo hi p q le) v h in
      let r = has_in (between b lo hi p q le).range v parts.0 in
      (r.low, r.high, agrees_inside b lo hi v p (has_agrees (outside lo (open_between b lo hi)) v parts.1))

-- ---- common words
-- which words a reduced set has
pub record HasCommon (r : Range) (b : Bits) (c : Both) : Type 0 where
  pub into : (v : ℕ) → range_has r v ≡ true → bits_has b v ≡ true → both_has c v ≡ true
  pub out : (v : ℕ) → both_has c v ≡ true → (range_has r v ≡ true) × (bits_has b v ≡ true)

some_both : {x y : Both} → Some x ≡ Some y → x ≡ y
some_both e = cc

none_both : {x : Both} → None ≡ Some x → ⊥
none_both e = cc

ends_common : (r : Range) (b : Bits) (l : Least b r.lo) (g : Greatest b r.hi) (c : Both) → from_ends b r.lo r.hi l g ≡ Some c → HasCommon r b c
ends_common r b (inl none) g c e = absurd (none_both e)
ends_common r b (inr l) (inl none) c e = absurd (none_both e)
ends_common r b (inr l) (inr g) c e = by (cases_lt g.0 l.0) e
  where
    by : (o : (g.0 < l.0) ⊎ (l.0 ≤ g.0)) → if_ordered b l.0 g.0 l.1.has g.1.has o ≡ Some c → HasCommon r b c
    by (inl apart) e = absurd (none_both e)
    by (inr le) e = subst (λ (x : Both). HasCommon r b x) (some_both e) (record {
      into = λ v p q. let k = has_in r v p in between_has b l.0 g.0 l.1.has g.1.has le v (l.1.first v q k.low) (g.1.last v q k.high) q;
      out = λ v h.
          let k = has_between b l.0 g.0 l.1.has g.1.has le v h in
          let low = l.1.beyond in
          let high = g.1.within in
          let m = k.0 in
          let n = k.1 in
          (in_has r v (record { low = omega arith; high = omega arith }), k.2);
    })

ends_none : (r : Range) (b : Bits) (l : Least b r.lo) (g : Greatest b r.hi) → from_ends b r.lo r.hi l g ≡ None → (v : ℕ) → range_has r v ≡ true → bits_has b v ≡ true → ⊥
ends_none r b (inl none) g e v p q = let k = has_in r v p in let l = k.low in let m = none v q in omega arith
ends_none r b (inr l) (inl none) e v p q = let k = has_in r v p in none v q k.high
ends_none r b (inr l) (inr g) e v p q = by (cases_lt g.0 l.0) e
  where
    by : (o : (g.0 < l.0) ⊎ (l.0 ≤ g.0)) → if_ordered b l.0 g.0 l.1.has g.1.has o ≡ None → ⊥
    by (inl apart) e =
        let k = has_in r v p in
        let x = l.1.first v q k.low in
        let y = g.1.last v q k.high in
        omega arith
    by (inr le) e = none_both (sym e)

pub reduced_common : (r : Range) (b : Bits) (c : Both) → reduced r b ≡ Some c → HasCommon r b c
reduced_common r b c e = ends_common r b (least_of b r.lo) (greatest_of b r.hi) c e

pub reduced_none : (r : Range) (b : Bits) → reduced r b ≡ None → (v : ℕ) → range_has r v ≡ true → bits_has b v ≡ true → ⊥
reduced_none r b e v p q = ends_none r b (least_of b r.lo) (greatest_of b r.hi) e v p q

-- ---- meets
-- both parts are there, with a set of their common words
record BothMeet (r : Option Range) (b : Option Bits) (c : Both) : Type 0 where
  range : Range
  bits : Bits
  range_is : r ≡ Some range
  bits_is : b ≡ Some bits
  is : reduced range bits ≡ Some c

meet_parts : (r : Option Range) (b : Option Bits) (c : Both) → reduced_if r b ≡ Some c → BothMeet r b c
meet_parts (Some r) (Some b) c e = record { range = r; bits = b; range_is = refl; bits_is = refl; is = e }
meet_parts (Some r) None c e = absurd (none_both e)
meet_parts None b c e = absurd (none_both e)

no_range : {x : Range} → Some x ≡ None → ⊥
no_range e = cc

no_bits : {x : Bits} → Some x ≡ None → ⊥
no_bits e = cc

meet_some : (a b c : Both) (v : ℕ) → both_meet a b ≡ Some c → both_has a v ≡ true → both_has b v ≡ true → both_has c v ≡ true
meet_some a b c v e h k =
    let m = meet_parts (range_meet a.range b.range) (bits_meet a.bits b.bits) c e in
    let p = both_parts a v h in
    let q = both_parts b v k in
    (reduced_common m.range m.bits c m.is).into v (range_lawful.meet_some a.range b.range m.range v m.range_is p.0 q.0) (bits_lawful.meet_some a.bits b.bits m.bits v m.bits_is p.1 q.1)

meet_within : (a b c : Both) (v : ℕ) → both_meet a b ≡ Some c → both_has c v ≡ true → (both_has a v ≡ true) × (both_has b v ≡ true)
meet_within a b c v e h =
    let m = meet_parts (range_meet a.range b.range) (bits_meet a.bits b.bits) c e in
    let o = (reduced_common m.range m.bits c m.is).out v h in
    let p = range_lawful.meet_within a.range b.range m.range v m.range_is o.0 in
    let q = bits_lawful.meet_within a.bits b.bits m.bits v m.bits_is o.1 in
    (parts_both a v p.0 q.0, parts_both b v p.1 q.1)

no_common : (r : Option Range) (b : Option Bits) (v : ℕ) → reduced_if r b ≡ None → ((x : Range) → r ≡ Some x → range_has x v ≡ true) → ((y : Bits) → b ≡ Some y → bits_has y v ≡ true) → (r ≡ None → ⊥) → (b ≡ None → ⊥) → ⊥
no_common (Some r) (Some b) v e p q s t = reduced_none r b e v (p r refl) (q b refl)
no_common (Some r) None v e p q s t = t refl
no_common None b v e p q s t = s refl

meet_none : (a b : Both) (v : ℕ) → both_meet a b ≡ None → both_has a v ≡ true → both_has b v ≡ true → ⊥
meet_none a b v e h k =
    let p = both_parts a v h in
    let q = both_parts b v k in
    no_common (range_meet a.range b.range) (bits_meet a.bits b.bits) v e
    (λ x is. range_lawful.meet_some a.range b.range x v is p.0 q.0)
    (λ y is. bits_lawful.meet_some a.bits b.bits y v is p.1 q.1)
    (λ is. range_lawful.meet_none a.range b.range v is p.0 q.0)
    (λ is. bits_lawful.meet_none a.bits b.bits v is p.1 q.1)

-- ---- the laws
whole_has : (b : Bits) (v : ℕ) → bits_has b v ≡ true → both_has (whole b) v ≡ true
whole_has b v h = let l = bits_lawful.bounds b v h in between_has b b.value (b.value + b.loose) (least_has b) (greatest_has b) (in_order b) v l.0 l.1 h

has_whole : (b : Bits) (v : ℕ) → both_has (whole b) v ≡ true → bits_has b v ≡ true
has_whole b v h = (has_between b b.value (b.value + b.loose) (least_has b) (greatest_has b) (in_order b) v h).2

pub both_lawful : AreLawful both_sets
both_lawful = record { some = λ a. (a.range.lo, lowest_has a); words = words; unknown = λ v s. whole_has all_open v (agrees_has all_open v (all_agree v s)); exact = λ v s. whole_has (all_known v) v (agrees_has (all_known v) v (one_agrees v s)); exact_only = λ v u s h. bits_lawful.exact_only v u s (has_whole (all_known v) u h); meet_some = meet_some; meet_within = meet_within; meet_none = meet_none; as_exact = as_exact; is_exact = is_exact; bounds = bounds; ordered = λ a. a.range.ordered; small = λ a. a.range.small; bounds_within = bounds_within }
  where
    words : (a : Both) (v : ℕ) → both_has a v ≡ true → v < 2 ^ 32
    words a v h = range_lawful.words a.range v ((both_parts a v h).0)

    as_exact : (a : Both) (v u : ℕ) → range_exact a.range ≡ Some v → both_has a u ≡ true → u ≡ v
    as_exact a v u e h = range_lawful.as_exact a.range v u e ((both_parts a u h).0)

    is_exact : (a : Both) (v : ℕ) → ((u : ℕ) → both_has a u ≡ true → u ≡ v) → range_exact a.range ≡ Some v
    is_exact a v h =
        let l : a.range.lo ≡ v = h a.range.lo (lowest_has a) in
        let g : a.range.hi ≡ v = h a.range.hi (highest_has a) in
        rw (eq-eqb a.range.lo a.range.hi (l ∙ sym g)) (ap (λ (n : ℕ). Some n) l)

    bounds : (a : Both) (v : ℕ) → both_has a v ≡ true → (a.range.lo ≤ v) × (v ≤ a.range.hi)
    bounds a v h = range_lawful.bounds a.range v ((both_parts a v h).0)

    bounds_within : (a b : Both) → IsWithin both_sets a b → (b.range.lo ≤ a.range.lo) × (a.range.hi ≤ b.range.hi)
    bounds_within a b h = ((bounds b a.range.lo (h a.range.lo (lowest_has a))).0, (bounds b a.range.hi (h a.range.hi (highest_has a))).1)

-- ---- an open bit differs in two words
open_both : (b : Bits) (x i : ℕ) → bit_at b.loose i ≡ 1 → i < 32 → bits_has b x ≡ true → bits_has b (bit_or x (2 ^ i)) ≡ true
open_both b x i free inside h =
    let g = has_agrees b x h in
    agrees_has b (bit_or x (2 ^ i)) (record { small = or_lt 32 x (2 ^ i) g.small (pow_below i 32 inside); same = λ j l e. bit_at_or x (2 ^ i) j ∙ ap (λ n. max (bit_at x j) n) (bit_at-pow_other i j (other j e)) ∙ zero_max (bit_at x j) ∙ g.same j l e })
  where
    zero_max : (n : ℕ) → max n 0 ≡ n
    zero_max n = omega arith

    zero_one : (n : ℕ) → n ≡ 0 → n ≡ 1 → ⊥
    zero_one n e f = omega arith

    other : (j : ℕ) → bit_at b.loose j ≡ 0 → j ≢ i
    other j e is = zero_one (bit_at b.loose i) (ap (λ k. bit_at b.loose k) (sym is) ∙ e) free

clear_both : (b : Bits) (x i : ℕ) → bit_at b.loose i ≡ 1 → i < 32 → bits_has b x ≡ true → bits_has b (but x (2 ^ i)) ≡ true
clear_both b x i free inside h =
    let g = has_agrees b x h in
    let l = and_le_l x (2 ^ 32 - 1 - 2 ^ i) in
    agrees_has b (but x (2 ^ i)) (record { small = let s = g.small in omega (arith, s, l); same = λ j k e. but_bit x (2 ^ i) j (pow_below i 32 inside) k ∙ ap (λ n. min (bit_at x j) (1 - n)) (bit_at-pow_other i j (other j e)) ∙ one_min (bit_at x j) (bit_at-lt x j) ∙ g.same j k e })
  where
    one_min : (n : ℕ) → n < 2 → min n (1 - 0) ≡ n
    one_min n l = omega arith

    zero_one : (n : ℕ) → n ≡ 0 → n ≡ 1 → ⊥
    zero_one n e f = omega arith

    other : (j : ℕ) → bit_at b.loose j ≡ 0 → j ≢ i
    other j e is = zero_one (bit_at b.loose i) (ap (λ k. bit_at b.loose k) (sym is) ∙ e) free

-- setting a bit below bit h changes nothing from h on
set_below : (x i h : ℕ) → i < h → bit_or x (2 ^ i) / 2 ^ h ≡ x / 2 ^ h
set_below x i h lt = or_shr x (2 ^ i) h ∙ ap (λ n. bit_or (x / 2 ^ h) n) (div-eq_of_lt (pow_below i h lt)) ∙ or_zero_r (x / 2 ^ h)

-- the bit below which two words differ: the less hasn't it, and the greater has
record Parted (lo hi h : ℕ) : Type 0 where
  pub upper : lo / 2 ^ suc h ≡ hi / 2 ^ suc h
  pub clear : bit_at lo h ≡ 0
  pub set : bit_at hi h ≡ 1

parted_at : (lo hi h : ℕ) → lo < hi → lo / 2 ^ suc h ≡ hi / 2 ^ suc h → bit_at (bit_xor lo hi) h ≡ 1 → Parted lo hi h
parted_at lo hi h lt upper one = elim (bit_cases lo h) [
  | inl e ↦ record { upper = upper; clear = e; set = other (bit_at lo h) (bit_at hi h) e (bit_at-lt hi h) odd }
  | inr e ↦
      let p = top_set lo h e in
      let q = top_clear hi h (none (bit_at lo h) (bit_at hi h) e (bit_at-lt hi h) odd) in
      let r = left_ordered lo hi (2 ^ suc h) upper (omega arith) in
      absurd (omega (arith, p, q, r))
]
  where
    odd : (bit_at lo h + bit_at hi h) % 2 ≡ 1
    odd = sym (bit_at_xor lo hi h) ∙ one

    other : (p q : ℕ) → p ≡ 0 → q < 2 → (p + q) % 2 ≡ 1 → q ≡ 1
    other p q e l f = omega arith

    none : (p q : ℕ) → p ≡ 1 → q < 2 → (p + q) % 2 ≡ 1 → q ≡ 0
    none p q e l f = omega arith

parted : (lo hi : ℕ) → lo < hi → hi < 2 ^ 32 → (h : ℕ) × (digits (bit_xor lo hi) ≡ suc h) × Parted lo hi h
parted lo hi lt s = by (digits (bit_xor lo hi)) refl (digits_hold (bit_xor lo hi) (xor_lt 32 lo hi (omega arith) s))
  where
    by : (n : ℕ) → digits (bit_xor lo hi) ≡ n → (bit_xor lo hi < 2 ^ n) × (2 ^ n ≤ 2 * bit_xor lo hi + 1) × (n ≤ 32) → (h : ℕ) × (digits (bit_xor lo hi) ≡ suc h) × Parted lo hi h
    by zero is p = let less = p.0 in let same = same_by_xor lo hi (omega arith) in absurd (omega (arith, same, lt))
    by (suc h) is p =
        let e = pow-suc 2 h in
        let less = p.0 in
        let more = p.1 in
        let one : bit_xor lo hi / 2 ^ h ≡ 1 = div-eq_of_lt-le {k = 1} (2 ^ h) (omega (arith, e, more)) (omega (arith, e, less)) in
        (h, is, parted_at lo hi h lt (same_by_xor (lo / 2 ^ suc h) (hi / 2 ^ suc h) (sym (xor_shr lo hi (suc h)) ∙ div-eq_of_lt less)) (ap (λ x. x % 2) one))

apart_bits : (p q : ℕ) → p ≡ 0 → q ≡ 1 → p ≢ q
apart_bits p q e f is = omega arith

-- between two words that are parted at bit h, each open bit up to it differs in two words
module _ (a : Both) (h i : ℕ) (parts : Parted a.range.lo a.range.hi h) (below : i ≤ h) (inside : h < 32) (free : bit_at a.bits.loose i ≡ 1) where
  not_top : (x : ℕ) → bit_at x h ≡ 0 → bit_at x i ≡ 1 → i < h
  not_top x e f = elim (cases_lt i h) [ inl lt ↦ lt | inr ge ↦ let is : i ≡ h = omega arith in absurd (apart_bits (bit_at x h) (bit_at x i) e f (ap (λ j. bit_at x j) (sym is))) ]

  not_top_set : (x : ℕ) → bit_at x h ≡ 1 → bit_at x i ≡ 0 → i < h
  not_top_set x e f = elim (cases_lt i h) [ inl lt ↦ lt | inr ge ↦ let is : i ≡ h = omega arith in absurd (apart_bits (bit_at x i) (bit_at x h) f e (ap (λ j. bit_at x j) is)) ]

  place : i < 32
  place = omega arith

  -- where the greatest word has no bit i, setting it in the least one
  by_setting : bit_at a.range.lo i ≡ 0 → bit_at a.range.hi i ≡ 0 → Differ a i
  by_setting e f =
      let lt = not_top_set a.range.hi parts.set f in
      let u = bit_or a.range.lo (2 ^ i) in
      let top : bit_at u h ≡ 0 = bit_at_or a.range.lo (2 ^ i) h ∙ zeros (bit_at a.range.lo h) (bit_at (2 ^ i) h) parts.clear (bit_at-pow_other i h (λ is. omega arith)) in
      let less = upper_less u a.range.hi h (set_below a.range.lo i (suc h) (omega arith) ∙ parts.upper) top parts.set in
      let more = le_or_l a.range.lo (2 ^ i) in
      let one : bit_at u i ≡ 1 = bit_at_or a.range.lo (2 ^ i) i ∙ ones (bit_at a.range.lo i) (bit_at (2 ^ i) i) e (bit_at-pow_same i) in
      record { one = a.range.lo; other = u; has_one = lowest_has a; has_other = parts_both a u (in_has a.range u (record { low = more; high = omega (arith, less) })) (open_both a.bits a.range.lo i free place a.least); differ = apart_bits (bit_at a.range.lo i) (bit_at u i) e one }
    where
      zeros : (p q : ℕ) → p ≡ 0 → q ≡ 0 → max p q ≡ 0
      zeros p q e f = omega arith

      ones : (p q : ℕ) → p ≡ 0 → q ≡ 1 → max p q ≡ 1
      ones p q e f = omega arith

  -- where the least word has bit i, clearing it in the greatest one
  by_clearing : bit_at a.range.lo i ≡ 1 → bit_at a.range.hi i ≡ 1 → Differ a i
  by_clearing e f =
      let lt = not_top a.range.lo parts.clear e in
      let s = a.range.small in
      let m = pow_below i 32 place in
      let u = but a.range.hi (2 ^ i) in
      let none : bit_at u i ≡ 0 = but_bit a.range.hi (2 ^ i) i m place ∙ cleared (bit_at a.range.hi i) (bit_at (2 ^ i) i) (bit_at-pow_same i) in
      let kept : bit_at u h ≡ 1 = but_bit a.range.hi (2 ^ i) h m inside ∙ stays (bit_at a.range.hi h) (bit_at (2 ^ i) h) parts.set (bit_at-pow_other i h (λ is. omega arith)) in
      let apart : bit_and u (2 ^ i) ≡ 0 = and_pow u i ∙ ap (λ n. n * 2 ^ i) none ∙ zero-mul (2 ^ i) in
      let taken : bit_and a.range.hi (2 ^ i) ≡ 2 ^ i = and_pow a.range.hi i ∙ ap (λ n. n * 2 ^ i) f ∙ one-mul (2 ^ i) in
      let back : bit_or u (2 ^ i) ≡ a.range.hi = or_disjoint u (2 ^ i) apart ∙ ap (λ n. u + n) (sym taken) ∙ but_split a.range.hi (2 ^ i) s m in
      let same : u / 2 ^ suc h ≡ a.range.hi / 2 ^ suc h = sym (set_below u i (suc h) (omega arith)) ∙ ap (λ n. n / 2 ^ suc h) back in
      let more = upper_less a.range.lo u h (parts.upper ∙ sym same) parts.clear kept in
      let less = but_le a.range.hi (2 ^ i) in
      record { one = u; other = a.range.lo; has_one = parts_both a u (in_has a.range u (record { low = omega (arith, more); high = less })) (clear_both a.bits a.range.hi i free place a.greatest); has_other = lowest_has a; differ = apart_bits (bit_at u i) (bit_at a.range.lo i) none e }
    where
      cleared : (p q : ℕ) → q ≡ 1 → min p (1 - q) ≡ 0
      cleared p q e = omega arith

      stays : (p q : ℕ) → p ≡ 1 → q ≡ 0 → min p (1 - q) ≡ 1
      stays p q e f = omega arith

      zero-mul : (n : ℕ) → 0 * n ≡ 0
      zero-mul n = omega arith

      one-mul : (n : ℕ) → 1 * n ≡ n
      one-mul n = omega arith

  up_to_top : Differ a i
  up_to_top = elim (bit_cases a.range.lo i) [
    | inl e ↦ elim (bit_cases a.range.hi i) [
      | inl f ↦ by_setting e f
      | inr f ↦ record { one = a.range.lo; other = a.range.hi; has_one = lowest_has a; has_other = highest_has a; differ = apart_bits (bit_at a.range.lo i) (bit_at a.range.hi i) e f }
    ]
    | inr e ↦ elim (bit_cases a.range.hi i) [
      | inl f ↦ record { one = a.range.hi; other = a.range.lo; has_one = highest_has a; has_other = lowest_has a; differ = apart_bits (bit_at a.range.hi i) (bit_at a.range.lo i) f e }
      | inr f ↦ by_clearing e f
    ]
  ]

zero_or_one : (n : ℕ) → n ≡ 0 → n ≡ 1 → ⊥
zero_or_one n e f = omega arith

pub open_differs : (a : Both) (i : ℕ) → i < 32 → bit_at a.bits.loose i ≡ 1 → Differ a i
open_differs a i inside free =
    let s = a.range.small in
    let o = a.range.ordered in
    elim (cases_lt a.range.lo a.range.hi) [
      | inl lt ↦
          let p = parted a.range.lo a.range.hi lt s in
          let n = digits_hold (bit_xor a.range.lo a.range.hi) (xor_lt 32 a.range.lo a.range.hi (omega arith) s) in
          let is = p.1 in
          let w = n.2 in
          up_to_top a p.0 i p.2 (within_top (digits (bit_xor a.range.lo a.range.hi)) p.0 is a.tight) (omega (arith, is, w)) free
      | inr ge ↦
          let same : a.range.lo ≡ a.range.hi = omega arith in
          absurd (no_open same a.tight)
    ]
  where
    within_top : (n h : ℕ) → n ≡ suc h → a.bits.loose ≤ 2 ^ n - 1 → i ≤ h
    within_top n h is t = elim (cases_lt i n) [
      | inl lt ↦ omega arith
      | inr ge ↦ let some = pow_pos n in absurd (zero_or_one (bit_at a.bits.loose i) (bit_at_above a.bits.loose n i (omega (arith, some, t)) ge) free)
    ]

    no_open : a.range.lo ≡ a.range.hi → a.bits.loose ≤ cover (bit_xor a.range.lo a.range.hi) → ⊥
    no_open same t =
        let none : bit_xor a.range.lo a.range.hi ≡ 0 = ap (λ n. bit_xor n a.range.hi) same ∙ xor_self a.range.hi in
        let small : a.bits.loose ≤ cover 0 = subst (λ n. a.bits.loose ≤ cover n) none t in
        let c = cover_none in
        let nothing : a.bits.loose ≡ 0 = omega (arith, small, c) in
        zero_or_one (bit_at a.bits.loose i) (ap (λ n. bit_at n i) nothing ∙ bit_at-zero i) free

pub differs_open : (a : Both) (i : ℕ) → i < 32 → Differ a i → bit_at a.bits.loose i ≡ 1
differs_open a i inside d = elim (bit_cases a.bits.loose i) [
  | inr free ↦ free
  | inl known ↦
      let p = has_agrees a.bits d.one ((both_parts a d.one d.has_one).1) in
      let q = has_agrees a.bits d.other ((both_parts a d.other d.has_other).1) in
      absurd (d.differ (p.same i inside known ∙ sym (q.same i inside known)))
]

pub is_reduced : (r : Range) (b : Bits) (a : Both) → reduced r b ≡ Some a → IsReduced r b a
is_reduced r b a e =
    let c = reduced_common r b a e in
    record { common = λ v. (λ h. c.out v h, λ h. c.into v h.0 h.1); lowest = lowest_has a; highest = highest_has a; free = λ i l. (λ e. open_differs a i l e, λ d. differs_open a i l d) }

-- ---- smaller sets have smaller parts
pub range_within : (a b : Both) → IsWithin both_sets a b → IsWithin range_sets a.range b.range
range_within a b h =
    let p = has_in b.range a.range.lo ((both_parts b a.range.lo (h a.range.lo (lowest_has a))).0) in
    let q = has_in b.range a.range.hi ((both_parts b a.range.hi (h a.range.hi (highest_has a))).0) in
    lies_within a.range b.range (record { low = p.low; high = q.high })

pub bits_within : (a b : Both) → IsWithin both_sets a b → IsWithin bits_sets a.bits b.bits
bits_within a b h = knows_within a.bits b.bits (record { known = known; same = same })
  where
    agrees : (v : ℕ) → both_has a v ≡ true → Agrees b.bits v
    agrees v t = has_agrees b.bits v ((both_parts b v (h v t)).1)

    known : (i : ℕ) → i < 32 → bit_at b.bits.loose i ≡ 0 → bit_at a.bits.loose i ≡ 0
    known i l e = elim (bit_cases a.bits.loose i) [
      | inl z ↦ z
      | inr free ↦
          let d = open_differs a i l free in
          absurd (d.differ ((agrees d.one d.has_one).same i l e ∙ sym ((agrees d.other d.has_other).same i l e)))
    ]

    same : (i : ℕ) → i < 32 → bit_at b.bits.loose i ≡ 0 → bit_at a.bits.value i ≡ bit_at b.bits.value i
    same i l e = sym ((has_agrees a.bits a.range.lo a.least).same i l (known i l e)) ∙ (agrees a.range.lo (lowest_has a)).same i l e
