-- Words that differ in a bit, and in none above it.
use Rattle.std.proofs.Common.{◌≡◌, ℕ, suc, ◌+◌, ◌*◌, ◌/◌, ◌%◌, ◌^◌, ◌<◌, ◌≤◌, ap, ◌∙◌, arith, lit<}
use Rattle.std.specs.Prelude.{bit_xor}
use Rattle.std.specs.Int.{bit_at}
use Rattle.std.specs.Int.Bits.{xor_add_and}
use Rattle.rept_span.specs.Tables.{cover}
use Rattle.rept_span.specs.Laws.RangeBounds.{digits_hold}
use Rattle.std.proofs.lemmas.Nat.{pow_pos, and_le_l, and_le_r, mod_below, mod-pow-add, div-add-mod'}

-- numbers without a bit in which they differ
pub same_by_xor : (a b : ℕ) → bit_xor a b ≡ 0 → a ≡ b
same_by_xor a b e = let s = xor_add_and a b in let l = and_le_l a b in let r = and_le_r a b in omega (arith, s, l, r, e)

-- the low bits, and the one above them
top_split : (x h : ℕ) → x % 2 ^ suc h ≡ bit_at x h * 2 ^ h + x % 2 ^ h
top_split x h = ap (λ j. x % 2 ^ j) (turned h) ∙ mod-pow-add x 1 h
  where
    turned : (h : ℕ) → suc h ≡ 1 + h
    turned h = omega arith

pub top_clear : (x h : ℕ) → bit_at x h ≡ 0 → x % 2 ^ suc h < 2 ^ h
top_clear x h e = let f : x % 2 ^ suc h ≡ 0 * 2 ^ h + x % 2 ^ h = top_split x h ∙ ap (λ n. n * 2 ^ h + x % 2 ^ h) e in let l = mod_below x (2 ^ h) (pow_pos h) in omega (arith, f, l)

pub top_set : (x h : ℕ) → bit_at x h ≡ 1 → 2 ^ h ≤ x % 2 ^ suc h
top_set x h e = let f : x % 2 ^ suc h ≡ 1 * 2 ^ h + x % 2 ^ h = top_split x h ∙ ap (λ n. n * 2 ^ h + x % 2 ^ h) e in omega (arith, f)

-- numbers of one quotient are ordered by what is left
pub left_ordered : (k v P : ℕ) → k / P ≡ v / P → k ≤ v → k % P ≤ v % P
left_ordered k v P e le = let x = div-add-mod' k P in let y = div-add-mod' v P in let f : k / P * P ≡ v / P * P = ap (λ n. n * P) e in omega (arith, x, y, f, le)

-- of two words that are alike from a bit on, the one without the bit below is less
pub upper_less : (x y h : ℕ) → x / 2 ^ suc h ≡ y / 2 ^ suc h → bit_at x h ≡ 0 → bit_at y h ≡ 1 → x < y
upper_less x y h e f g =
    let p = div-add-mod' x (2 ^ suc h) in
    let q = div-add-mod' y (2 ^ suc h) in
    let r : x / 2 ^ suc h * 2 ^ suc h ≡ y / 2 ^ suc h * 2 ^ suc h = ap (λ n. n * 2 ^ suc h) e in
    let s = top_clear x h f in
    let t = top_set y h g in
    omega (arith, p, q, r, s, t)

-- no bit is set in the cover of 0
pub cover_none : cover 0 ≡ 0
cover_none = let d = (digits_hold 0 (lit< tt)).1 in omega (arith, d)
