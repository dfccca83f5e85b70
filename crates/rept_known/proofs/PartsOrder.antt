-- The part of a mask after another one is the next greater one.
use Rattle.std.proofs.Common.{◌≡◌, ℕ, zero, suc, ◌+◌, ◌-◌, ◌*◌, ◌/◌, ◌%◌, ◌^◌, ◌<◌, ◌≤◌, min, inl, inr, sym, ap, ◌∙◌, subst, arith}
use Rattle.std.specs.Prelude.{bit_and}
use Rattle.std.proofs.Math.Nat.{pow-suc}
use Rattle.std.proofs.lemmas.Nat.{and_comm, and_assoc, and_le_l, and_le_r, and-not, or_disjoint, and_or_apart}
use Rattle.std.proofs.lemmas.Bool.{cases_lt}
use Rattle.std.specs.Int.Bits.{and_step, and_self}
use Rattle.rept_known.specs.Parts.{next_part}

-- the same at any width
abbrev next_at : ℕ → ℕ → ℕ → ℕ
next_at k part mask = bit_and (part + (2 ^ k - 1 - mask) + 1) mask

pub record IsNext (part mask other next : ℕ) : Type 0 where
  pub above : part < next
  pub first : next ≤ other

apart_not : (k mask : ℕ) → mask < 2 ^ k → bit_and (2 ^ k - 1 - mask) mask ≡ 0
apart_not k mask s = let e = and-not k mask mask s s in let f = and_self mask in omega (arith, e, f)

-- filling the bits outside the mask changes no bit in it
filled_part : (k part mask : ℕ) → mask < 2 ^ k → bit_and part mask ≡ part → bit_and (part + (2 ^ k - 1 - mask)) mask ≡ part
filled_part k part mask s e =
    let apart : bit_and part (2 ^ k - 1 - mask) ≡ 0 =
    ap (λ n. bit_and n (2 ^ k - 1 - mask)) (sym e) ∙ and_assoc (2 ^ k - 1 - mask) part mask ∙ ap (λ n. bit_and part n) (and_comm mask (2 ^ k - 1 - mask) ∙ apart_not k mask s) ∙ nothing part in
    ap (λ n. bit_and n mask) (sym (or_disjoint part (2 ^ k - 1 - mask) apart)) ∙ and_or_apart mask part (2 ^ k - 1 - mask) (apart_not k mask s) ∙ e
  where
    nothing : (n : ℕ) → bit_and n 0 ≡ 0
    nothing n = let l = and_le_r n 0 in omega (arith, l)

halves : (n : ℕ) → n ≡ n / 2 * 2 + n % 2
halves n = omega arith

half_part : (part mask : ℕ) → bit_and part mask ≡ part → (bit_and (part / 2) (mask / 2) ≡ part / 2) × (min (part % 2) (mask % 2) ≡ part % 2)
half_part part mask e = let s = and_step part mask in let l = and_le_l (part / 2) (mask / 2) in (omega (arith, s, e), omega (arith, s, e))

half_of : (n q r : ℕ) → n ≡ q * 2 + r → r < 2 → (n / 2 ≡ q) × (n % 2 ≡ r)
half_of n q r e l = (omega arith, omega arith)

half_not : (k mask : ℕ) → mask < 2 ^ suc k → 2 ^ suc k - 1 - mask ≡ (2 ^ k - 1 - mask / 2) * 2 + (1 - mask % 2)
half_not k mask s = let e = pow-suc 2 k in omega (arith, e)

half_small : (k mask : ℕ) → mask < 2 ^ suc k → mask / 2 < 2 ^ k
half_small k mask s = let e = pow-suc 2 k in omega (arith, e)

-- a bit of the answer, and its half
join_next : (k part mask q r : ℕ) → part + (2 ^ suc k - 1 - mask) + 1 ≡ q * 2 + r → r < 2 → next_at (suc k) part mask ≡ bit_and q (mask / 2) * 2 + min r (mask % 2)
join_next k part mask q r e l =
    let h = half_of (part + (2 ^ suc k - 1 - mask) + 1) q r e l in
    and_step (part + (2 ^ suc k - 1 - mask) + 1) mask
    ∙ ap (λ n. bit_and n (mask / 2) * 2 + min ((part + (2 ^ suc k - 1 - mask) + 1) % 2) (mask % 2)) h.0
    ∙ ap (λ n. bit_and q (mask / 2) * 2 + min n (mask % 2)) h.1

-- bit 0 of the mask is free, and the part hasn't it
next_odd : (k part mask other : ℕ) → mask < 2 ^ suc k → part < other → bit_and (part / 2) (mask / 2) ≡ part / 2 → mask % 2 ≡ 1 → part % 2 ≡ 0 → IsNext part mask other (next_at (suc k) part mask)
next_odd k part mask other s lt e set clear =
    let n = half_not k mask s in
    let m = half_small k mask s in
    let j = join_next k part mask (part / 2 + (2 ^ k - 1 - mask / 2)) 1 (omega (arith, n, set, clear)) (omega arith) in
    let g = filled_part k (part / 2) (mask / 2) m e in
    let is : next_at (suc k) part mask ≡ part + 1 = j ∙ ap (λ x. x * 2 + min 1 (mask % 2)) g ∙ omega (arith, set, clear) in
    record { above = below (next_at (suc k) part mask) is; first = within (next_at (suc k) part mask) is }
  where
    below : (x : ℕ) → x ≡ part + 1 → part < x
    below x e = omega arith

    within : (x : ℕ) → x ≡ part + 1 → x ≤ other
    within x e = omega arith

-- bit 0 hands the carry on
next_even : (k part mask other : ℕ) → mask < 2 ^ suc k → part % 2 ≡ mask % 2 → other % 2 ≤ mask % 2 → IsNext (part / 2) (mask / 2) (other / 2) (next_at k (part / 2) (mask / 2)) → IsNext part mask other (next_at (suc k) part mask)
next_even k part mask other s same within r =
    let n = half_not k mask s in
    let m = half_small k mask s in
    let j = join_next k part mask (part / 2 + (2 ^ k - 1 - mask / 2) + 1) 0 (omega (arith, n, m, same)) (omega arith) in
    up (next_at (suc k) part mask) (next_at k (part / 2) (mask / 2)) (j ∙ omega arith) r.above r.first
  where
    up : (x y : ℕ) → x ≡ y * 2 → part / 2 < y → y ≤ other / 2 → IsNext part mask other x
    up x y e l g = record { above = omega arith; first = omega arith }

pub next_is : (k part mask other : ℕ) → mask < 2 ^ k → bit_and part mask ≡ part → bit_and other mask ≡ other → part < other → IsNext part mask other (next_at k part mask)
next_is zero part mask other s e f lt =
    let none : mask ≡ 0 = omega arith in
    let l = and_le_r other mask in
    absurd (omega (arith, none, l, f, lt))
next_is (suc k) part mask other s e f lt =
    let p = half_part part mask e in
    let q = half_part other mask f in
    let x = p.1 in
    let y = q.1 in
    elim (cases_lt (part % 2) (mask % 2)) [
      | inl less ↦ next_odd k part mask other s lt p.0 (omega arith) (omega arith)
      | inr more ↦
          let same : part % 2 ≡ mask % 2 = omega (arith, x, more) in
          let within : other % 2 ≤ mask % 2 = omega (arith, y) in
          next_even k part mask other s same within (next_is k (part / 2) (mask / 2) (other / 2) (half_small k mask s) p.0 q.0 (omega (arith, lt, same, within)))
    ]

-- at 32 bits
pub next_word : (part mask : ℕ) → mask < 2 ^ 32 → part < mask → next_part part mask ≡ next_at 32 part mask
next_word part mask s lt = ap (λ n. bit_and n mask) (sum part mask s lt)
  where
    sum : (part mask : ℕ) → mask < 2 ^ 32 → part < mask → (part + (2 ^ 32 - mask)) % 2 ^ 32 ≡ part + (2 ^ 32 - 1 - mask) + 1
    sum part mask s lt = omega arith

pub next_after : (part mask other : ℕ) → mask < 2 ^ 32 → bit_and part mask ≡ part → part < mask → bit_and other mask ≡ other → part < other → IsNext part mask other (next_part part mask)
next_after part mask other s e lt f more = subst (λ n. IsNext part mask other n) (sym (next_word part mask s lt)) (next_is 32 part mask other s e f more)
