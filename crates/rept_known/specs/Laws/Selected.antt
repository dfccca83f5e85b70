-- Functions that move bits, as shifts do: they take known bits to known bits, and open ones to open
-- ones.
use Rattle.std.proofs.Common.{◌≡◌, ℕ, ◌+◌, ◌-◌, ◌*◌, ◌/◌, ◌%◌, ◌^◌, ◌<◌, ◌≤◌, ◌⊎◌, min, inl, inr, sym, ap, ◌∙◌, arith}
use Rattle.std.specs.Int.{bit_at}
use mir.Syntax.{w32}
use Rattle.std.proofs.lemmas.Nat.{pow_pos, shr_le, shr-shr}
use Rattle.std.proofs.lemmas.Nat.Bits.{bit_at_not, bit_at-lt, bit_at-zero, bit_at_above, bit_at_cat_low, bit_at_cat_high}
use Rattle.std.proofs.lemmas.Bool.{cases_lt}
use Rattle.rept_isa.specs.declared.instr.RegOp.TheVariants.{Sra}
use Rattle.rept_machine.specs.Arithmetic.{computed}
use Rattle.rept_span.specs.Laws.RangeBounds.{shifted_positive, shifted_negative, shifted_small}
use Rattle.rept_known.specs.declared.bits.Bits.{Bits}
use Rattle.rept_known.specs.Masks.{bit_of_word}
use Rattle.rept_partial.specs.Ranges.{word}
use Rattle.rept_known.specs.Bits.{outside}
use Rattle.rept_known.specs.Laws.BitsLaws.{Agrees, KnowsAll, value_small, loose_small, in_outside, outside_knows, value_kept}

-- each bit of an answer is 0, or a certain one of the argument
pub record MovesBits (f : ℕ → ℕ) : Type 0 where
  pub small : (x : ℕ) → x < 2 ^ 32 → f x < 2 ^ 32
  pub source : (i : ℕ) → i < 32 → ((x : ℕ) → x < 2 ^ 32 → bit_at (f x) i ≡ 0) ⊎ ((j : ℕ) × (j < 32) × ((x : ℕ) → x < 2 ^ 32 → bit_at (f x) i ≡ bit_at x j))

module _ (f : ℕ → ℕ) (m : MovesBits f) where
  pub moved_covers : (a : Bits) (x : ℕ) → Agrees a x → Agrees (outside (f a.value) (f a.loose)) (f x)
  moved_covers a x h = in_outside (f a.value) (f a.loose) (f x) (m.small x h.small) bit
    where
      bit : (i : ℕ) → i < 32 → bit_at (f a.loose) i ≡ 0 → bit_at (f x) i ≡ bit_at (f a.value) i
      bit i l e = elim (m.source i l) [
        | inl none ↦ none x h.small ∙ sym (none a.value (value_small a))
        | inr (j, below, from) ↦ from x h.small ∙ h.same j below (sym (from a.loose (loose_small a)) ∙ e) ∙ sym (from a.value (value_small a))
      ]

  pub moved_knows : (a b : Bits) → KnowsAll a b → KnowsAll (outside (f a.value) (f a.loose)) (outside (f b.value) (f b.loose))
  moved_knows a b h = outside_knows (f a.value) (f a.loose) (outside (f b.value) (f b.loose)) (λ i l e. bit i l (sym (bit_of_word (f b.loose) i l) ∙ e))
    where
      bit : (i : ℕ) → i < 32 → bit_at (f b.loose) i ≡ 0 → (bit_at (f a.loose) i ≡ 0) × (bit_at (f a.value) i ≡ bit_at (outside (f b.value) (f b.loose)).value i)
      bit i l e =
          let v = value_kept (f b.value) (f b.loose) i l e in
          elim (m.source i l) [
            | inl none ↦ (none a.loose (loose_small a), none a.value (value_small a) ∙ sym (none b.value (value_small b)) ∙ sym v)
            | inr (j, below, from) ↦
                let known : bit_at b.loose j ≡ 0 = sym (from b.loose (loose_small b)) ∙ e in (
                  from a.loose (loose_small a) ∙ h.known j below known,
                  from a.value (value_small a) ∙ h.same j below known ∙ sym (from b.value (value_small b)) ∙ sym v,
                )
          ]

plus_none : (n : ℕ) → n ≡ n + 0
plus_none n = omega arith

left_low : (x n i : ℕ) → i < n → bit_at (x * 2 ^ n) i ≡ 0
left_low x n i l = ap (λ y. bit_at y i) (plus_none (x * 2 ^ n)) ∙ bit_at_cat_low x n 0 i l ∙ bit_at-zero i

left_high : (x n i : ℕ) → n ≤ i → bit_at (x * 2 ^ n) i ≡ bit_at x (i - n)
left_high x n i l = ap (λ y. bit_at y i) (plus_none (x * 2 ^ n)) ∙ bit_at_cat_high x n 0 i (pow_pos n) l

pub left_moves : (n : ℕ) → MovesBits (λ x. word (x * 2 ^ n))
left_moves n = record { small = λ x s. omega arith; source = source }
  where
    source : (i : ℕ) → i < 32 → ((x : ℕ) → x < 2 ^ 32 → bit_at (word (x * 2 ^ n)) i ≡ 0) ⊎ ((j : ℕ) × (j < 32) × ((x : ℕ) → x < 2 ^ 32 → bit_at (word (x * 2 ^ n)) i ≡ bit_at x j))
    source i l = elim (cases_lt i n) [
      | inl lt ↦ inl (λ x s. bit_of_word (x * 2 ^ n) i l ∙ left_low x n i lt)
      | inr ge ↦ inr (i - n, omega arith, λ x s. bit_of_word (x * 2 ^ n) i l ∙ left_high x n i ge)
    ]

pub right_bit : (x n i : ℕ) → bit_at (x / 2 ^ n) i ≡ bit_at x (i + n)
right_bit x n i = ap (λ y. y % 2) (shr-shr x n i) ∙ ap (λ j. bit_at x j) (turned n i)
  where
    turned : (n i : ℕ) → n + i ≡ i + n
    turned n i = omega arith

pub right_moves : (n : ℕ) → MovesBits (λ x. x / 2 ^ n)
right_moves n = record { small = λ x s. let d = shr_le x n in omega (arith, d); source = source }
  where
    source : (i : ℕ) → i < 32 → ((x : ℕ) → x < 2 ^ 32 → bit_at (x / 2 ^ n) i ≡ 0) ⊎ ((j : ℕ) × (j < 32) × ((x : ℕ) → x < 2 ^ 32 → bit_at (x / 2 ^ n) i ≡ bit_at x j))
    source i l = elim (cases_lt (i + n) 32) [
      | inl lt ↦ inr (i + n, lt, λ x s. right_bit x n i)
      | inr ge ↦ inl (λ x s. right_bit x n i ∙ bit_at_above x 32 (i + n) s ge)
    ]

-- bit 31 is repeated
module _ (x n i : ℕ) (small : x < 2 ^ 32) (amount : n < 32) (inside : i < 32) where
  five : n % 32 ≡ n
  five = omega arith

  of_positive : x < 2 ^ 31 → bit_at (x / 2 ^ n) i ≡ bit_at x (min (i + n) 31)
  of_positive lt = right_bit x n i ∙ elim (cases_lt (i + n) 31) [
    | inl below ↦ ap (λ j. bit_at x j) (least below)
    | inr above ↦ bit_at_above x 31 (i + n) lt above ∙ sym (bit_at_above x 31 (min (i + n) 31) lt (top above))
  ]
    where
      least : i + n < 31 → i + n ≡ min (i + n) 31
      least l = omega arith

      top : 31 ≤ i + n → 31 ≤ min (i + n) 31
      top l = omega arith

  twice : (b : ℕ) → b < 2 → 1 - (1 - b) ≡ b
  twice b l = omega arith

  turned : (b c : ℕ) → b < 2 → c ≡ 0 → c ≡ 1 - b → 1 - c ≡ b
  turned b c l e f = omega arith

  of_negative : 2 ^ 31 ≤ x → bit_at (2 ^ 32 - 1 - (2 ^ 32 - 1 - x) / 2 ^ n) i ≡ bit_at x (min (i + n) 31)
  of_negative ge =
      let c : 2 ^ 32 - 1 - x < 2 ^ 31 = omega arith in
      let d = shr_le (2 ^ 32 - 1 - x) n in
      bit_at_not w32 ((2 ^ 32 - 1 - x) / 2 ^ n) i (omega (arith, d)) inside ∙ ap (λ b. 1 - b) (right_bit (2 ^ 32 - 1 - x) n i)
      ∙ elim (cases_lt (i + n) 31) [
        | inl below ↦ ap (λ b. 1 - b) (bit_at_not w32 x (i + n) small (omega arith)) ∙ twice (bit_at x (i + n)) (bit_at-lt x (i + n)) ∙ ap (λ j. bit_at x j) (least below)
        | inr above ↦
            ap (λ b. 1 - b) (bit_at_above (2 ^ 32 - 1 - x) 31 (i + n) c above ∙ sym (bit_at_above (2 ^ 32 - 1 - x) 31 31 c (omega arith)))
            ∙ turned (bit_at x 31) (bit_at (2 ^ 32 - 1 - x) 31) (bit_at-lt x 31) (bit_at_above (2 ^ 32 - 1 - x) 31 31 c (omega arith)) (bit_at_not w32 x 31 small (omega arith))
            ∙ ap (λ j. bit_at x j) (top above)
      ]
    where
      least : i + n < 31 → i + n ≡ min (i + n) 31
      least l = omega arith

      top : 31 ≤ i + n → 31 ≡ min (i + n) 31
      top l = omega arith

  signed_bit : bit_at (computed Sra x n) i ≡ bit_at x (min (i + n) 31)
  signed_bit = elim (cases_lt x (2 ^ 31)) [
    | inl lt ↦ ap (λ y. bit_at y i) (shifted_positive x n lt ∙ ap (λ m. x / 2 ^ m) five) ∙ of_positive lt
    | inr ge ↦ ap (λ y. bit_at y i) (shifted_negative x n ge small ∙ ap (λ m. 2 ^ 32 - 1 - (2 ^ 32 - 1 - x) / 2 ^ m) five) ∙ of_negative ge
  ]

pub sign_moves : (n : ℕ) → n < 32 → MovesBits (λ x. computed Sra x n)
sign_moves n l = record { small = λ x s. shifted_small x n; source = λ i k. inr (min (i + n) 31, omega arith, λ x s. signed_bit x n i s l k) }
