-- Bits and fields of a payload.
use Rattle.std.proofs.Common.{◌≡◌, ℕ, zero, suc, ◌+◌, ◌-◌, ◌*◌, ◌/◌, ◌%◌, ◌^◌, ◌<◌, ◌≤◌, List, length, slice_index, min, nat_eq, Bool, true, false, cond, refl, sym, ◌∙◌, ap, add-one, arith}
use Rattle.std.proofs.Math.Nat.{pow-suc, mod-eq_of_lt, div-div-eq-div-mul, mul-lt-mul_of_pos_right, mul-le-mul_right, mul_comm}
use Rattle.std.proofs.Math.Pow.{pow_mono}
use Rattle.std.proofs.lemmas.Nat.{div-mul-add, mod-pow-add, pow-add}
use Rattle.rept_word.specs.Bits.{bit_of, field}
use Rattle.rept_word.specs.Cursor.{IsAt}
use Rattle.rept_word.specs.declared.cursor.BitCursor.{BitCursor}

bit_in : (payload : List ℕ) (m byte bit : ℕ) → bit < 8 → 8 * byte + bit ≡ m → nat_eq (slice_index payload byte / 2 ^ bit % 2) 1 ≡ nat_eq (slice_index payload (m / 8) / 2 ^ (m % 8) % 2) 1
bit_in payload m byte bit in_byte e =
    let a : m / 8 ≡ byte = omega arith in
    let b : m % 8 ≡ bit = omega arith in
    rw (a, b) refl

-- the bit at a place is the payload's
pub bit_is : (payload : List ℕ) (i byte bit : ℕ) → bit < 8 → 8 * byte + bit ≡ min i (8 * length payload - 1) → nat_eq (slice_index payload byte / 2 ^ bit % 2) 1 ≡ bit_of payload i
unfolding bit_of
bit_is payload i byte bit in_byte e = bit_in payload (min i (8 * length payload - 1)) byte bit in_byte e

pub field_zero : (p : List ℕ) (i : ℕ) → field p i 0 ≡ 0
unfolding field
field_zero p i = refl

pub field_suc : (p : List ℕ) (i n : ℕ) → field p i (suc n) ≡ cond (bit_of p i) 1 0 + 2 * field p (i + 1) n
unfolding field
field_suc p i n = refl

-- the last bit of a field
pub field_last : (p : List ℕ) (i n : ℕ) → field p i (suc n) ≡ field p i n + 2 ^ n * cond (bit_of p (i + n)) 1 0
field_last p i zero =
    let a = field_suc p i 0 in
    let b = field_zero p (i + 1) in
    let z = field_zero p i in
    let same : i ≡ i + 0 = omega arith in
    let digit : ℕ → ℕ = λ k. cond (bit_of p k) 1 0 in
    let e : digit i ≡ digit (i + 0) = ap digit same in
    rw (z, a, b) (omega (arith, e))
field_last p i (suc n) =
    let a = field_suc p i (suc n) in
    let b = field_suc p i n in
    let h = field_last p (i + 1) n in
    let digit : ℕ → ℕ = λ k. cond (bit_of p k) 1 0 in
    let e : i + 1 + n ≡ i + suc n = omega arith in
    let g : digit (i + 1 + n) ≡ digit (i + suc n) = ap digit e in
    let t : 2 ^ n * digit (i + 1 + n) ≡ 2 ^ n * digit (i + suc n) = ap (λ k. 2 ^ n * k) g in
    let w : 2 ^ suc n * digit (i + suc n) ≡ 2 ^ n * 2 * digit (i + suc n) = ap (λ k. k * digit (i + suc n)) (pow-suc 2 n) in
    omega (arith, a, b, h, t, w)

pub weight_is : (i : ℕ) → i < 64 → 1 * 2 ^ i % 18446744073709551616 ≡ 2 ^ i
weight_is i lt = let below : i ≤ 63 = omega arith in let le : 2 ^ i ≤ 2 ^ 63 = pow_mono below in let a : 1 * 2 ^ i ≡ 2 ^ i = omega arith in rw a (mod-eq_of_lt (omega arith))

-- one more bit of a number
pub one_bit : (p : List ℕ) (i n value : ℕ) → value ≡ field p i n → true ≡ bit_of p (i + n) → value + 2 ^ n ≡ field p i (n + 1)
one_bit p i n value is bit = let f = field_last p i n in let e : cond (bit_of p (i + n)) 1 0 ≡ 1 = rw (← bit) refl in let t = ap (λ k. 2 ^ n * k) e in let s : field p i (n + 1) ≡ field p i (suc n) = rw add-one refl in omega (arith, f, t, s)

pub no_bit : (p : List ℕ) (i n value : ℕ) → value ≡ field p i n → false ≡ bit_of p (i + n) → value ≡ field p i (n + 1)
no_bit p i n value is bit = let f = field_last p i n in let e : cond (bit_of p (i + n)) 1 0 ≡ 0 = rw (← bit) refl in let t = ap (λ k. 2 ^ n * k) e in let s : field p i (n + 1) ≡ field p i (suc n) = rw add-one refl in omega (arith, f, t, s)

digit_small : (b : Bool) → cond b 1 0 < 2
digit_small true = omega arith
digit_small false = omega arith

pub field_small : (p : List ℕ) (i n : ℕ) → field p i n < 2 ^ n
field_small p i zero = rw (field_zero p i) (omega arith)
field_small p i (suc n) =
    let f = field_suc p i n in
    let b : cond (bit_of p i) 1 0 < 2 = digit_small (bit_of p i) in
    let r : field p (i + 1) n < 2 ^ n = field_small p (i + 1) n in
    rw pow-suc (omega arith)

-- a field in two parts
pub field_parts : (p : List ℕ) (i a b : ℕ) → field p i (a + b) ≡ field p i a + 2 ^ a * field p (i + a) b
field_parts p i zero b =
    let n : 0 + b ≡ b = omega arith in
    let same : i ≡ i + 0 = omega arith in
    let left : field p i (0 + b) ≡ field p i b = ap (field p i) n in
    let right : field p i b ≡ field p (i + 0) b = ap (λ k. field p k b) same in
    let z = field_zero p i in
    omega (arith, left, right, z)
field_parts p i (suc a) b =
    let n : suc a + b ≡ suc (a + b) = omega arith in
    let left : field p i (suc a + b) ≡ field p i (suc (a + b)) = ap (field p i) n in
    let one = field_suc p i (a + b) in
    let first = field_suc p i a in
    let rest = field_parts p (i + 1) a b in
    let e : i + 1 + a ≡ i + suc a = omega arith in
    let t : 2 ^ a * field p (i + 1 + a) b ≡ 2 ^ a * field p (i + suc a) b = ap (λ k. 2 ^ a * field p k b) e in
    let w : 2 ^ suc a * field p (i + suc a) b ≡ 2 ^ a * 2 * field p (i + suc a) b = ap (λ k. k * field p (i + suc a) b) (pow-suc 2 a) in
    omega (arith, left, one, first, rest, t, w)

digit_is : (d : ℕ) → d < 2 → cond (nat_eq d 1) 1 0 ≡ d
digit_is zero h = refl
digit_is (suc zero) h = refl
digit_is (suc (suc d)) h = absurd (omega (arith, h))

-- a field within one byte
pub part_is : (p : List ℕ) (byte bit i n : ℕ) → i ≡ 8 * byte + bit → byte < length p → bit + n ≤ 8 → field p i n ≡ slice_index p byte / 2 ^ bit % 2 ^ n
part_is p byte bit i zero at inside fits = field_zero p i ∙ omega arith
part_is p byte bit i (suc n) at inside fits =
    let x : ℕ = slice_index p byte / 2 ^ bit in
    let place : 8 * byte + bit ≡ min i (8 * length p - 1) = omega (arith, at, inside, fits) in
    let same = bit_is p i byte bit (omega (arith, fits)) place in
    let below : x % 2 < 2 = omega arith in
    let digit : cond (bit_of p i) 1 0 ≡ x % 2 = ap (λ b. cond b 1 0) (sym same) ∙ digit_is (x % 2) below in
    let rest = part_is p byte (bit + 1) (i + 1) n (omega (arith, at)) inside (omega (arith, fits)) in
    let half : x / 2 ≡ slice_index p byte / 2 ^ (bit + 1) = div-div-eq-div-mul (slice_index p byte) (2 ^ bit) 2 ∙ ap (λ k. slice_index p byte / k) (sym (pow-suc 2 bit) ∙ ap (λ k. 2 ^ k) add-one') in
    let high : x / 2 % 2 ^ n ≡ slice_index p byte / 2 ^ (bit + 1) % 2 ^ n = ap (λ k. k % 2 ^ n) half in
    let parts = mod-pow-add x n 1 in
    let more : x % 2 ^ suc n ≡ x % 2 ^ (n + 1) = ap (λ k. x % 2 ^ k) add-one'' in
    let f = field_suc p i n in
    omega (arith, f, digit, rest, high, parts, more)
  where
    add-one' : suc bit ≡ bit + 1
    add-one' = omega arith

    add-one'' : suc n ≡ n + 1
    add-one'' = omega arith

-- past the end each bit is the last one
last_on : (p : List ℕ) (i : ℕ) → 8 * length p - 1 ≤ i → bit_of p i ≡ bit_of p (8 * length p - 1)
unfolding bit_of
last_on p i h =
    let e : min i (8 * length p - 1) ≡ min (8 * length p - 1) (8 * length p - 1) = omega (arith, h) in
    ap (λ m. nat_eq (slice_index p (m / 8) / 2 ^ (m % 8) % 2) 1) e

all_ones : (b : Bool) (n rest : ℕ) → 0 < 2 ^ n → rest ≡ cond b (2 ^ n - 1) 0 → cond b 1 0 + 2 * rest ≡ cond b (2 ^ suc n - 1) 0
all_ones true n rest some h = let w = pow-suc 2 n in omega (arith, h, w, some)
all_ones false n rest some h = omega (arith, h)

pub repeat_is : (p : List ℕ) (i n : ℕ) → 8 * length p - 1 ≤ i → field p i n ≡ cond (bit_of p (8 * length p - 1)) (2 ^ n - 1) 0
repeat_is p i zero h = field_zero p i ∙ nothing (bit_of p (8 * length p - 1))
  where
    nothing : (b : Bool) → 0 ≡ cond b (2 ^ 0 - 1) 0
    nothing true = refl
    nothing false = refl
repeat_is p i (suc n) h =
    let f = field_suc p i n in
    let d : cond (bit_of p i) 1 0 ≡ cond (bit_of p (8 * length p - 1)) 1 0 = ap (λ b. cond b 1 0) (last_on p i h) in
    let r = repeat_is p (i + 1) n (omega (arith, h)) in
    let none : 0 ≤ n = omega arith in
    let one : 2 ^ 0 ≤ 2 ^ n = pow_mono none in
    let all = all_ones (bit_of p (8 * length p - 1)) n (field p (i + 1) n) (omega (arith, one)) r in
    f ∙ ap (λ k. k + 2 * field p (i + 1) n) d ∙ all

-- the same at the last bit itself
pub ends_in : (p : List ℕ) (byte bit i n : ℕ) (b : Bool) → bit ≡ 7 → byte + 1 ≡ length p → 8 * byte + bit ≡ min i (8 * length p - 1) → b ≡ nat_eq (slice_index p byte / 2 ^ bit % 2) 1 → field p i n ≡ cond b (2 ^ n - 1) 0
ends_in p byte bit i n b seven whole place is =
    let last : 8 * length p - 1 ≤ i = omega (arith, seven, whole, place) in
    let there : 8 * byte + bit ≡ min (8 * length p - 1) (8 * length p - 1) = omega (arith, seven, whole) in
    let same : b ≡ bit_of p (8 * length p - 1) = is ∙ bit_is p (8 * length p - 1) byte bit (omega (arith, seven)) there in
    repeat_is p i n last ∙ ap (λ c. cond c (2 ^ n - 1) 0) (sym same)

-- the same of a cursor there
pub ends_at : (cursor : BitCursor) (p : List ℕ) (i n : ℕ) (b : Bool) → IsAt cursor p i → cursor.bit ≡ 7 → cursor.byte + 1 ≡ length cursor.payload.now → b ≡ nat_eq (slice_index cursor.payload.now cursor.byte / 2 ^ cursor.bit % 2) 1 → field p i n ≡ cond b (2 ^ n - 1) 0
ends_at cursor p i n b at seven whole is =
    ends_in p cursor.byte cursor.bit i n b seven (whole ∙ ap (λ xs. length xs) at.reads) at.place (is ∙ ap (λ xs. nat_eq (slice_index xs cursor.byte / 2 ^ cursor.bit % 2) 1) at.reads)

-- bits within the byte at a cursor
pub within_byte : (cursor : BitCursor) (p : List ℕ) (i k x : ℕ) → IsAt cursor p i → 8 * cursor.byte + cursor.bit < 8 * length cursor.payload.now - 1 → cursor.byte < length cursor.payload.now → cursor.bit + k ≤ 8 → x ≡ slice_index cursor.payload.now cursor.byte / 2 ^ cursor.bit → x % (1 * 2 ^ k % 18446744073709551616) ≡ field p i k
within_byte cursor p i k x at early inside fits is =
    let long : length cursor.payload.now ≡ length p = ap (λ xs. length xs) at.reads in
    let place : i ≡ 8 * cursor.byte + cursor.bit = let there = at.place in omega (arith, there, early, long) in
    let w = weight_is k (omega (arith, fits)) in
    ap (λ m. x % m) w ∙ ap (λ y. y % 2 ^ k) (is ∙ ap (λ xs. slice_index xs cursor.byte / 2 ^ cursor.bit) at.reads)
    ∙ sym (part_is p cursor.byte cursor.bit i k place (omega (arith, inside, long)) fits)

-- bits that are put above others
pub shifted : (bits taken count : ℕ) → bits < 2 ^ count → taken + count ≤ 64 → bits * 2 ^ taken % 18446744073709551616 ≡ bits * 2 ^ taken
shifted bits taken count small few =
    let most : 2 ^ (taken + count) ≤ 2 ^ 64 = pow_mono few in
    let parts : 2 ^ (taken + count) ≡ 2 ^ taken * 2 ^ count = pow-add 2 taken count in
    let some : 2 ^ 0 ≤ 2 ^ taken = pow_mono (zero_le taken) in
    let below : bits * 2 ^ taken < 2 ^ count * 2 ^ taken = mul-lt-mul_of_pos_right {m = bits} {n = 2 ^ count} {k = 2 ^ taken} small (omega (arith, some)) in
    let swap : 2 ^ count * 2 ^ taken ≡ 2 ^ taken * 2 ^ count = mul_comm (2 ^ count) (2 ^ taken) in
    mod-eq_of_lt (omega (arith, most, parts, below, swap))
  where
    zero_le : (n : ℕ) → 0 ≤ n
    zero_le n = omega arith

pub joined_small : (value bits taken count : ℕ) → value < 2 ^ taken → bits < 2 ^ count → taken + count ≤ 64 → (value + bits * 2 ^ taken < 2 ^ (taken + count)) × (2 ^ (taken + count) ≤ 2 ^ 64)
joined_small value bits taken count low high few =
    let most : 2 ^ (taken + count) ≤ 2 ^ 64 = pow_mono few in
    let parts : 2 ^ (taken + count) ≡ 2 ^ taken * 2 ^ count = pow-add 2 taken count in
    let up : bits + 1 ≤ 2 ^ count = omega (arith, high) in
    let below : (bits + 1) * 2 ^ taken ≤ 2 ^ count * 2 ^ taken = mul-le-mul_right {m = bits + 1} {n = 2 ^ count} (2 ^ taken) up in
    let swap : 2 ^ count * 2 ^ taken ≡ 2 ^ taken * 2 ^ count = mul_comm (2 ^ count) (2 ^ taken) in
    let one : (bits + 1) * 2 ^ taken ≡ bits * 2 ^ taken + 2 ^ taken = omega arith in
    (omega (arith, parts, below, swap, one, low), most)

pub joined : (p : List ℕ) (i taken count value bits : ℕ) → value ≡ field p i taken → bits ≡ field p (i + taken) count → value + bits * 2 ^ taken ≡ field p i (taken + count)
joined p i taken count value bits low high =
    let parts = field_parts p i taken count in
    let swap : bits * 2 ^ taken ≡ 2 ^ taken * field p (i + taken) count = mul_comm bits (2 ^ taken) ∙ ap (λ k. 2 ^ taken * k) high in
    omega (arith, parts, low, swap)

-- a field of one bit
pub field_one : (p : List ℕ) (i : ℕ) → field p i 1 ≡ cond (bit_of p i) 1 0
field_one p i = let f = field_suc p i 0 in let z = field_zero p (i + 1) in omega (arith, f, z)

pub is_bit : (p : List ℕ) (i value : ℕ) → value ≡ field p i 1 → nat_eq value 1 ≡ bit_of p i
is_bit p i value e = digit (bit_of p i) value (e ∙ field_one p i) where
  digit : (b : Bool) (v : ℕ) → v ≡ cond b 1 0 → nat_eq v 1 ≡ b
  digit true v h = rw h refl
  digit false v h = rw h refl

-- the last bit of a field by division
pub last_bit : (p : List ℕ) (i n : ℕ) → field p i (suc n) / 2 ^ n ≡ field p (i + n) 1
last_bit p i n =
    let f = field_last p i n in
    let small = field_small p i n in
    let one = field_one p (i + n) in
    let swap : 2 ^ n * cond (bit_of p (i + n)) 1 0 ≡ cond (bit_of p (i + n)) 1 0 * 2 ^ n = omega arith in
    let whole : field p i (suc n) ≡ cond (bit_of p (i + n)) 1 0 * 2 ^ n + field p i n = omega (arith, f, swap) in
    ap (λ k. k / 2 ^ n) whole ∙ div-mul-add (cond (bit_of p (i + n)) 1 0) (2 ^ n) (field p i n) small ∙ sym one
