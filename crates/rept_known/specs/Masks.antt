-- Words of 32 bits and some of their bits, as numbers.
use Rattle.std.proofs.Common.{◌≡◌, ℕ, ◌+◌, ◌-◌, ◌*◌, ◌/◌, ◌%◌, ◌^◌, ◌<◌, ◌≤◌, ◌⊎◌, min, inl, inr, sym, ap, ◌∙◌, arith}
use Rattle.std.specs.Prelude.{bit_and}
use Rattle.std.specs.Int.{bit_at}
use mir.Syntax.{w32}
use Rattle.std.proofs.lemmas.Nat.{and_comm, and_assoc, and_le_l, and_le_r, and-not, or_lt, or_disjoint}
use Rattle.std.proofs.lemmas.Bool.{cases_eq}
use Rattle.std.proofs.lemmas.Nat.Bits.{bit_at_and, bit_at_not, bit_at-lt, bit_at_cat_low, same_from_bits_below}

-- the bits of a word that aren't in a mask
abbrev pub but : ℕ → ℕ → ℕ
but v mask = bit_and v (2 ^ 32 - 1 - mask)

and_zero : (v : ℕ) → bit_and v 0 ≡ 0
and_zero v = let h = and_le_r v 0 in omega (arith, h)

pub and_self : (v : ℕ) → v < 2 ^ 32 → bit_and v v ≡ v
and_self v s = same_from_bits_below 32 (bit_and v v) v (let h = and_le_l v v in omega (arith, h)) s (λ i l. let e = bit_at_and v v i in omega (arith, e))

-- no bit of the mask is left
pub but_apart : (v mask : ℕ) → mask < 2 ^ 32 → bit_and (but v mask) mask ≡ 0
but_apart v mask s =
    let e : bit_and (2 ^ 32 - 1 - mask) mask + bit_and mask mask ≡ mask = and-not 32 mask mask s s in
    let f = and_self mask s in
    let none : bit_and (2 ^ 32 - 1 - mask) mask ≡ 0 = omega (arith, e, f) in
    and_assoc mask v (2 ^ 32 - 1 - mask) ∙ ap (λ n. bit_and v n) none ∙ and_zero v

pub but_le : (v mask : ℕ) → but v mask ≤ v
but_le v mask = and_le_l v (2 ^ 32 - 1 - mask)

-- a word is what is outside a mask, and what is in it
pub but_split : (v mask : ℕ) → v < 2 ^ 32 → mask < 2 ^ 32 → but v mask + bit_and v mask ≡ v
but_split v mask s t =
    let e = and-not 32 mask v t s in
    let f = and_comm v (2 ^ 32 - 1 - mask) in
    let g = and_comm v mask in
    omega (arith, e, f, g)

pub apart_small : (v mask : ℕ) → bit_and v mask ≡ 0 → v < 2 ^ 32 → mask < 2 ^ 32 → v + mask < 2 ^ 32
apart_small v mask e s t = let o = or_disjoint v mask e in let l = or_lt 32 v mask s t in omega (arith, o, l)

pub but_bit : (v mask i : ℕ) → mask < 2 ^ 32 → i < 32 → bit_at (but v mask) i ≡ min (bit_at v i) (1 - bit_at mask i)
but_bit v mask i s l = bit_at_and v (2 ^ 32 - 1 - mask) i ∙ ap (λ n. min (bit_at v i) n) (bit_at_not w32 mask i s l)

-- a bit outside the mask is kept
pub but_kept : (v mask i : ℕ) → mask < 2 ^ 32 → i < 32 → bit_at mask i ≡ 0 → bit_at (but v mask) i ≡ bit_at v i
but_kept v mask i s l e =
    let a = bit_at_and v (2 ^ 32 - 1 - mask) i in
    let b = bit_at_not w32 mask i s l in
    let c = bit_at-lt v i in
    omega (arith, a, b, c, e)

-- and one in it is 0
pub but_cut : (v mask i : ℕ) → mask < 2 ^ 32 → i < 32 → bit_at mask i ≡ 1 → bit_at (but v mask) i ≡ 0
but_cut v mask i s l e =
    let a = bit_at_and v (2 ^ 32 - 1 - mask) i in
    let b = bit_at_not w32 mask i s l in
    omega (arith, a, b, e)

pub bit_cases : (n i : ℕ) → (bit_at n i ≡ 0) ⊎ (bit_at n i ≡ 1)
bit_cases n i = let l = bit_at-lt n i in elim (cases_eq (bit_at n i) 0) [ inl e ↦ inl e | inr ne ↦ inr (omega (arith, l, ne)) ]

-- a word has the low bits of the number
pub bit_of_word : (n i : ℕ) → i < 32 → bit_at (n % 2 ^ 32) i ≡ bit_at n i
bit_of_word n i l =
    let e : n ≡ n / 2 ^ 32 * 2 ^ 32 + n % 2 ^ 32 = omega arith in
    sym (ap (λ x. bit_at x i) e ∙ bit_at_cat_low (n / 2 ^ 32) 32 (n % 2 ^ 32) i l)
