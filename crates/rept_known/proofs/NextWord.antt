-- The word of a set that is next to a bound, by its parts above and below the highest known bit in
-- which the bound differs.
use Rattle.std.proofs.Common.{◌≡◌, ◌≢◌, ℕ, zero, suc, ◌+◌, ◌-◌, ◌*◌, ◌/◌, ◌%◌, ◌^◌, ◌<◌, ◌≤◌, min, max, true, inl, inr, sym, ap, ◌∙◌, subst, arith}
use Rattle.std.specs.Prelude.{bit_and, bit_or, bit_xor}
use Rattle.std.specs.Int.{bit_at}
use Rattle.std.specs.Int.Bits.{and_self}
use Rattle.std.proofs.Math.Nat.{pow-suc, mul-le-mul_right, div-eq_of_lt-le, div-eq_of_lt}
use Rattle.std.proofs.lemmas.Nat.{pow_pos, and_comm, and_assoc, and_le_r, and_block, and_shr, or_shr, xor_shr, or_lt, xor_lt, or_disjoint, mod_below, div-add-mod'}
use Rattle.std.proofs.lemmas.Nat.Bits.{bit_at_and, bit_at_or, bit_at_xor, bit_at-lt, and_high_mask}
use Rattle.std.proofs.lemmas.Bool.{cases_lt}
use Rattle.rept_span.specs.Tables.{digits, cover}
use Rattle.rept_span.specs.Laws.RangeBounds.{digits_hold}
use Rattle.rept_known.specs.declared.bits.Bits.{Bits}
use Rattle.rept_known.specs.Masks.{but, but_apart, but_le, but_split, but_kept, but_cut, bit_cases}
use Rattle.rept_known.specs.Bits.{bits_has}
use Rattle.rept_known.specs.Laws.BitsLaws.{Agrees, value_small, loose_small, has_parts, has_agrees, agrees_has, open_bit}
use Rattle.rept_known.specs.Laws.Sums.{least_below}
use Rattle.rept_known.specs.Least.{IsLeastFrom}
use Rattle.rept_known.specs.Laws.Tops.{same_by_xor, top_clear, top_set, left_ordered}
use Rattle.rept_known.specs.Parts.{next_part}
use Rattle.rept_known.proofs.PartsOrder.{next_after}

-- how the bound and the set's words compare below the highest known bit in which they differ
pub record Sides (b : Bits) (lo n : ℕ) : Type 0 where
  pub upper : but lo b.loose / 2 ^ n ≡ b.value / 2 ^ n
  pub low : but lo b.loose ≤ b.value → lo % 2 ^ n ≤ b.value % 2 ^ n
  pub high : b.value < but lo b.loose → (y : ℕ) → Agrees b y → y % 2 ^ n < lo % 2 ^ n

other_one : (p q : ℕ) → p < 2 → q < 2 → p ≢ q → p ≡ 0 → q ≡ 1
other_one p q s t ne e = omega arith

other_zero : (p q : ℕ) → p < 2 → q < 2 → p ≢ q → p ≡ 1 → q ≡ 0
other_zero p q s t ne e = omega arith

module _ (b : Bits) (lo h : ℕ) (word : lo < 2 ^ 32) (inside : h < 32) (upper : but lo b.loose / 2 ^ suc h ≡ b.value / 2 ^ suc h) (one : bit_at (bit_xor (but lo b.loose) b.value) h ≡ 1) where
  apart : bit_at (but lo b.loose) h ≢ bit_at b.value h
  apart e = odd (bit_at (but lo b.loose) h) (bit_at b.value h) e (sym (bit_at_xor (but lo b.loose) b.value h) ∙ one)
    where
      odd : (p q : ℕ) → p ≡ q → (p + q) % 2 ≡ 1 → ⊥
      odd p q e f = omega arith

  free : bit_at b.loose h ≡ 0
  free = elim (bit_cases b.loose h) [
    | inl e ↦ e
    | inr e ↦ absurd (apart (but_cut lo b.loose h (loose_small b) inside e ∙ sym (open_bit b h e)))
  ]

  kept : bit_at (but lo b.loose) h ≡ bit_at lo h
  kept = but_kept lo b.loose h (loose_small b) inside free

  set_there : bit_at lo h ≡ 0 → bit_at b.value h ≡ 1
  set_there e = other_one (bit_at (but lo b.loose) h) (bit_at b.value h) (bit_at-lt (but lo b.loose) h) (bit_at-lt b.value h) apart (kept ∙ e)

  clear_there : bit_at lo h ≡ 1 → bit_at b.value h ≡ 0
  clear_there e = other_zero (bit_at (but lo b.loose) h) (bit_at b.value h) (bit_at-lt (but lo b.loose) h) (bit_at-lt b.value h) apart (kept ∙ e)

  lower : but lo b.loose ≤ b.value → lo % 2 ^ suc h ≤ b.value % 2 ^ suc h
  lower le = elim (bit_cases lo h) [
    | inl e ↦ let p = top_clear lo h e in let q = top_set b.value h (set_there e) in omega (arith, p, q)
    | inr e ↦
        let p = top_set (but lo b.loose) h (kept ∙ e) in
        let q = top_clear b.value h (clear_there e) in
        let r = left_ordered (but lo b.loose) b.value (2 ^ suc h) upper le in
        absurd (omega (arith, p, q, r))
  ]

  higher : b.value < but lo b.loose → (y : ℕ) → Agrees b y → y % 2 ^ suc h < lo % 2 ^ suc h
  higher lt y k = elim (bit_cases lo h) [
    | inl e ↦
        let p = top_clear (but lo b.loose) h (kept ∙ e) in
        let q = top_set b.value h (set_there e) in
        let r = left_ordered b.value (but lo b.loose) (2 ^ suc h) (sym upper) (omega arith) in
        absurd (omega (arith, p, q, r))
    | inr e ↦
        let p = top_set lo h e in
        let q = top_clear y h (k.same h inside free ∙ clear_there e) in
        omega (arith, p, q)
  ]

  sides_at : Sides b lo (suc h)
  sides_at = record { upper = upper; low = lower; high = higher }

pub sides : (b : Bits) (lo : ℕ) → lo < 2 ^ 32 → Sides b lo (digits (bit_xor (but lo b.loose) b.value))
sides b lo word = by (digits (bit_xor (but lo b.loose) b.value)) (digits_hold (bit_xor (but lo b.loose) b.value) (xor_lt 32 (but lo b.loose) b.value (let l = but_le lo b.loose in omega (arith, l)) (value_small b)))
  where
    by : (n : ℕ) → (bit_xor (but lo b.loose) b.value < 2 ^ n) × (2 ^ n ≤ 2 * bit_xor (but lo b.loose) b.value + 1) × (n ≤ 32) → Sides b lo n
    by zero h =
        let less = h.0 in
        let same = same_by_xor (but lo b.loose) b.value (omega arith) in
        record { upper = ap (λ x. x / 2 ^ 0) same; low = λ le. omega arith; high = λ lt y k. absurd (omega (arith, same, lt)) }
    by (suc i) h =
        let e = pow-suc 2 i in
        let less = h.0 in
        let more = h.1 in
        let within = h.2 in
        let d = bit_xor (but lo b.loose) b.value in
        let one : d / 2 ^ i ≡ 1 = div-eq_of_lt-le {k = 1} (2 ^ i) (omega (arith, e, more)) (omega (arith, e, less)) in
        sides_at b lo i word (omega arith) (same_by_xor (but lo b.loose / 2 ^ suc i) (b.value / 2 ^ suc i) (sym (xor_shr (but lo b.loose) b.value (suc i)) ∙ div-eq_of_lt less)) (ap (λ x. x % 2) one)

-- ---- a word by its open bits from bit n on, its known bits there, and what is below
upper_is : (m n : ℕ) → m < 2 ^ 32 → n ≤ 32 → but m (2 ^ n - 1) ≡ m / 2 ^ n * 2 ^ n
upper_is m n s le = ap (λ x. bit_and m x) (mask (2 ^ n) (pow_pos n)) ∙ and_high_mask 32 n le m s
  where
    mask : (P : ℕ) → 0 < P → 2 ^ 32 - 1 - (P - 1) ≡ 2 ^ 32 - P
    mask P some = omega arith

nothing : (n : ℕ) → bit_and n 0 ≡ 0
nothing n = let l = and_le_r n 0 in omega (arith, l)

up_part : (y m n : ℕ) → bit_and y (m / 2 ^ n * 2 ^ n) ≡ bit_and (y / 2 ^ n) (m / 2 ^ n) * 2 ^ n
up_part y m n =
    let P = 2 ^ n in
    let e : bit_and y (m / P * P) ≡ bit_and (y / P * P + y % P) (m / P * P + 0) = ap (λ x. bit_and x (m / P * P)) (sym (div-add-mod' y P)) ∙ ap (λ x. bit_and (y / P * P + y % P) x) (plus (m / P * P)) in
    e ∙ and_block n (y / P) (m / P) (y % P) 0 (mod_below y P (pow_pos n)) (pow_pos n) ∙ ap (λ x. bit_and (y / P) (m / P) * P + x) (nothing (y % P)) ∙ sym (plus (bit_and (y / P) (m / P) * P))
  where
    plus : (n : ℕ) → n ≡ n + 0
    plus n = omega arith

apart_parts : (y m : ℕ) → m < 2 ^ 32 → bit_and (but y m) (bit_and y m) ≡ 0
apart_parts y m s = ap (λ n. bit_and (but y m) n) (and_comm y m) ∙ sym (and_assoc y (but y m) m) ∙ ap (λ n. bit_and n y) (but_apart y m s) ∙ and_comm 0 y ∙ nothing y

quotient : (y m n : ℕ) → y < 2 ^ 32 → m < 2 ^ 32 → y / 2 ^ n ≡ but y m / 2 ^ n + bit_and (y / 2 ^ n) (m / 2 ^ n)
quotient y m n s t =
    let w = but y m in
    let z = bit_and y m in
    let whole : y ≡ bit_or w z = sym (but_split y m s t) ∙ sym (or_disjoint w z (apart_parts y m t)) in
    let none : bit_and (w / 2 ^ n) (z / 2 ^ n) ≡ 0 = sym (and_shr w z n) ∙ ap (λ x. x / 2 ^ n) (apart_parts y m t) ∙ div-eq_of_lt (pow_pos n) in
    ap (λ x. x / 2 ^ n) whole ∙ or_shr w z n ∙ or_disjoint (w / 2 ^ n) (z / 2 ^ n) none ∙ ap (λ x. w / 2 ^ n + x) (and_shr y m n)

pub split_at : (y m n : ℕ) → y < 2 ^ 32 → m < 2 ^ 32 → y ≡ bit_and y (m / 2 ^ n * 2 ^ n) + but y m / 2 ^ n * 2 ^ n + y % 2 ^ n
split_at y m n s t =
    let P = 2 ^ n in
    let q = ap (λ x. x * P) (quotient y m n s t) in
    let d = div-add-mod' y P in
    let u = up_part y m n in
    join y (y / P) (but y m / P) (bit_and (y / P) (m / P)) P (bit_and y (m / P * P)) (y % P) q d u
  where
    join : (y Y V A P a z : ℕ) → Y * P ≡ (V + A) * P → Y * P + z ≡ y → a ≡ A * P → y ≡ a + V * P + z
    join y Y V A P a z q d u = omega (arith, q, d, u)

-- multiples lie a whole step apart
multiples : (a c P : ℕ) → a * P < c * P → a * P + P ≤ c * P
multiples a c P lt = elim (cases_lt a c) [
  | inl less ↦ let l : suc a * P ≤ c * P = mul-le-mul_right P less in omega (arith, l)
  | inr more ↦ let l : c * P ≤ a * P = mul-le-mul_right P more in absurd (omega (arith, l, lt))
]

-- parts of the open bits from bit n on
stepped : (x y m n : ℕ) → bit_and x (m / 2 ^ n * 2 ^ n) < bit_and y (m / 2 ^ n * 2 ^ n) → bit_and x (m / 2 ^ n * 2 ^ n) + 2 ^ n ≤ bit_and y (m / 2 ^ n * 2 ^ n)
stepped x y m n lt =
    let e = up_part x m n in
    let f = up_part y m n in
    let l = multiples (bit_and (x / 2 ^ n) (m / 2 ^ n)) (bit_and (y / 2 ^ n) (m / 2 ^ n)) (2 ^ n) (omega (arith, e, f, lt)) in
    omega (arith, e, f, l)

-- ---- the answers
module _ (b : Bits) (lo n : ℕ) (word : lo < 2 ^ 32) (within : n ≤ 32) (s : Sides b lo n) where
  abbrev top : ℕ
  top = b.loose / 2 ^ n * 2 ^ n

  abbrev taken : ℕ
  taken = bit_and lo top

  abbrev base : ℕ
  base = b.value / 2 ^ n * 2 ^ n

  top_below : bit_and top b.loose ≡ top
  top_below = ap (λ x. bit_and x b.loose) (sym (upper_is b.loose n (loose_small b) within)) ∙ and_comm (but b.loose (2 ^ n - 1)) b.loose ∙ sym (and_assoc (2 ^ 32 - 1 - (2 ^ n - 1)) b.loose b.loose) ∙ ap (λ x. bit_and x (2 ^ 32 - 1 - (2 ^ n - 1))) (and_self b.loose) ∙ upper_is b.loose n (loose_small b) within

  top_small : top < 2 ^ 32
  top_small = let l = and_le_r top b.loose in let e = top_below in let s = loose_small b in omega (arith, l, e, s)

  -- an open part has no known bit
  part_apart : (x : ℕ) → bit_and (bit_and x top) b.value ≡ 0
  part_apart x =
      let none : bit_and top b.value ≡ 0 = ap (λ y. bit_and y b.value) (sym top_below) ∙ and_assoc b.value top b.loose ∙ ap (λ y. bit_and top y) (and_comm b.loose b.value ∙ b.apart) ∙ nothing top in
      and_assoc b.value x top ∙ ap (λ y. bit_and x y) none ∙ nothing x

  part_sum : (x : ℕ) → bit_or (bit_and x top) b.value ≡ bit_and x top + b.value
  part_sum x = or_disjoint (bit_and x top) b.value (part_apart x)

  part_has : (x : ℕ) → bits_has b (bit_or (bit_and x top) b.value) ≡ true
  part_has x = agrees_has b (bit_or (bit_and x top) b.value) (record { small = or_lt 32 (bit_and x top) b.value (let l = and_le_r x top in let t = top_small in omega (arith, l, t)) (value_small b); same = bit })
    where
      only : (o t u v : ℕ) → o ≡ max t v → t ≡ min u 0 → o ≡ v
      only o t u v e f = omega arith

      bit : (i : ℕ) → i < 32 → bit_at b.loose i ≡ 0 → bit_at (bit_or (bit_and x top) b.value) i ≡ bit_at b.value i
      bit i l e =
          let t : bit_at (bit_and x top) i ≡ min (min (bit_at x i) (bit_at top i)) 0 =
          ap (λ y. bit_at (bit_and x y) i) (sym top_below) ∙ ap (λ y. bit_at y i) (sym (and_assoc b.loose x top)) ∙ bit_at_and (bit_and x top) b.loose i ∙ ap (λ y. min (bit_at (bit_and x top) i) y) e ∙ ap (λ y. min y 0) (bit_at_and x top i) in
          only (bit_at (bit_or (bit_and x top) b.value) i) (bit_at (bit_and x top) i) (min (bit_at x i) (bit_at top i)) (bit_at b.value i) (bit_at_or (bit_and x top) b.value i) t

  bound_split : lo ≡ taken + base + lo % 2 ^ n
  bound_split = split_at lo b.loose n word (loose_small b) ∙ ap (λ x. taken + x * 2 ^ n + lo % 2 ^ n) s.upper

  word_split : (y : ℕ) → bits_has b y ≡ true → y ≡ bit_and y top + base + y % 2 ^ n
  word_split y h = let p = has_parts b y h in split_at y b.loose n p.0 (loose_small b) ∙ ap (λ x. bit_and y top + x / 2 ^ n * 2 ^ n + y % 2 ^ n) p.1

  value_split : b.value ≡ base + b.value % 2 ^ n
  value_split = sym (div-add-mod' b.value (2 ^ n))

  lower_is : but lo b.loose ≤ b.value → IsLeastFrom b lo (bit_or taken b.value)
  lower_is le = record { has = part_has lo; beyond = beyond; first = first }
    where
      below : lo % 2 ^ n ≤ b.value % 2 ^ n
      below = s.low le

      beyond : lo ≤ bit_or taken b.value
      beyond = let e = part_sum lo in let f = bound_split in let g = value_split in let l = below in omega (arith, e, f, g, l)

      first : (y : ℕ) → bits_has b y ≡ true → lo ≤ y → bit_or taken b.value ≤ y
      first y h from =
          let e = part_sum lo in
          let f = bound_split in
          let g = value_split in
          let w = word_split y h in
          let z = least_below b y n (has_agrees b y h) in
          let m = mod_below y (2 ^ n) (pow_pos n) in
          elim (cases_lt (bit_and y top) taken) [
            | inl less ↦ let k = stepped y lo b.loose n less in absurd (omega (arith, f, w, m, k, from))
            | inr more ↦ omega (arith, e, g, w, z, more)
          ]

  -- a word from the bound on has more of the upper open bits
  more_taken : b.value < but lo b.loose → (y : ℕ) → bits_has b y ≡ true → lo ≤ y → taken < bit_and y top
  more_taken lt y h from =
      let f = bound_split in
      let w = word_split y h in
      let z = s.high lt y (has_agrees b y h) in
      omega (arith, f, w, z, from)

  none_is : b.value < but lo b.loose → taken ≡ top → (y : ℕ) → bits_has b y ≡ true → y < lo
  none_is lt full y h = elim (cases_lt y lo) [
    | inl less ↦ less
    | inr from ↦ let m = more_taken lt y h from in let l = and_le_r y top in absurd (omega (arith, m, l, full))
  ]

  taken_part : (x : ℕ) → bit_and (bit_and x top) top ≡ bit_and x top
  taken_part x = and_assoc top x top ∙ ap (λ y. bit_and x y) (and_self top)

  upper_word : b.value < but lo b.loose → taken ≢ top → IsLeastFrom b lo (bit_or (next_part taken top) b.value)
  upper_word lt some = record { has = part_has ((taken + (2 ^ 32 - top)) % 2 ^ 32); beyond = beyond; first = first }
    where
      less : taken < top
      less = let l = and_le_r lo top in omega (arith, l, some)

      beyond : lo ≤ bit_or (next_part taken top) b.value
      beyond =
          let p = (next_after taken top top top_small (taken_part lo) less (and_self top) less).above in
          let k = stepped lo ((taken + (2 ^ 32 - top)) % 2 ^ 32) b.loose n p in
          let e = part_sum ((taken + (2 ^ 32 - top)) % 2 ^ 32) in
          let f = bound_split in
          let g = value_split in
          let m = mod_below lo (2 ^ n) (pow_pos n) in
          omega (arith, k, e, f, g, m)

      first : (y : ℕ) → bits_has b y ≡ true → lo ≤ y → bit_or (next_part taken top) b.value ≤ y
      first y h from =
          let p = (next_after taken top (bit_and y top) top_small (taken_part lo) less (taken_part y) (more_taken lt y h from)).first in
          let e = part_sum ((taken + (2 ^ 32 - top)) % 2 ^ 32) in
          let g = value_split in
          let w = word_split y h in
          let z = least_below b y n (has_agrees b y h) in
          omega (arith, p, e, g, w, z)

-- ---- as the code computes them
-- the open bits above the highest known bit in which the bound differs
abbrev pub upper_bits : Bits → ℕ → ℕ
upper_bits b lo = but b.loose (cover (bit_xor (but lo b.loose) b.value))

module _ (b : Bits) (lo : ℕ) (word : lo < 2 ^ 32) where
  gap_small : bit_xor (but lo b.loose) b.value < 2 ^ 32
  gap_small = xor_lt 32 (but lo b.loose) b.value (let l = but_le lo b.loose in omega (arith, l)) (value_small b)

  within : digits (bit_xor (but lo b.loose) b.value) ≤ 32
  within = (digits_hold (bit_xor (but lo b.loose) b.value) gap_small).2

  same_top : upper_bits b lo ≡ b.loose / 2 ^ digits (bit_xor (but lo b.loose) b.value) * 2 ^ digits (bit_xor (but lo b.loose) b.value)
  same_top = upper_is b.loose (digits (bit_xor (but lo b.loose) b.value)) (loose_small b) within

  pub least_low : but lo b.loose ≤ b.value → IsLeastFrom b lo (bit_or (bit_and lo (upper_bits b lo)) b.value)
  least_low le = subst (λ (u : ℕ). IsLeastFrom b lo (bit_or (bit_and lo u) b.value)) (sym same_top) (lower_is b lo (digits (bit_xor (but lo b.loose) b.value)) word within (sides b lo word) le)

  pub least_none_left : b.value < but lo b.loose → bit_and lo (upper_bits b lo) ≡ upper_bits b lo → (y : ℕ) → bits_has b y ≡ true → y < lo
  least_none_left lt full = none_is b lo (digits (bit_xor (but lo b.loose) b.value)) word within (sides b lo word) lt (subst (λ (u : ℕ). bit_and lo u ≡ u) same_top full)

  pub least_high : b.value < but lo b.loose → bit_and lo (upper_bits b lo) ≢ upper_bits b lo → IsLeastFrom b lo (bit_or (next_part (bit_and lo (upper_bits b lo)) (upper_bits b lo)) b.value)
  least_high lt some =
      subst (λ (u : ℕ). bit_and lo u ≢ u → IsLeastFrom b lo (bit_or (next_part (bit_and lo u) u) b.value)) (sym same_top) (upper_word b lo (digits (bit_xor (but lo b.loose) b.value)) word within (sides b lo word) lt) some
