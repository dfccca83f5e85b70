-- Powers of two, Newton's step and sign extension.
use Rattle.std.proofs.Common.{◌≡◌, ℕ, ◌+◌, ◌-◌, ◌*◌, ◌/◌, ◌%◌, ◌^◌, ◌<◌, ◌≤◌, cond, nat_lt, inl, inr, false, refl, sym, ◌∙◌, ap, subst, arith, lit<}
use Rattle.std.proofs.Math.Nat.{add-mul-mod_self_left, mul-add-mod_self_left, div-add-mod, mod-lt, mod-eq_of_lt, mul-le-mul_left}
use Rattle.std.proofs.Math.Pow.{pow_mono, pow-lt}
use Rattle.std.proofs.lemmas.Nat.{pow-add, pow_pos}
use Rattle.std.proofs.lemmas.Bool.{cases_order}
use Rattle.std.proofs.lemmas.Bool.Decides.{nat_tests}
use Rattle.rept_word.specs.Number.{IsAllOnes}

-- One step of Newton's iteration: t = 1 + q K is the product, and the whole modulus is K K m.
newton : (v x K m e t q s d c y : ℕ) → K * K * m * e + t ≡ v * x → K * q + 1 ≡ t → s + K * K * m * d + t ≡ 2 + K * K * m → K * K * m * c + y ≡ x * s → v * y + K * K * (v * m * c + m * d * t + q * q) ≡ 1 + K * K * (m * e * s + m * t)
newton v x K m e t q s d c y product unit rest new =
    let a = ap (λ n. n * s) product in
    let b = ap (λ n. t * n) rest in
    let f = ap (λ n. v * n) new in
    let g = ap (λ n. n * n) unit in
    omega (arith, a, b, f, g)

above_one : (n K : ℕ) → 0 < K → n % K ≡ 1 → 1 < K
above_one n K some one = omega arith

square_above_one : (K : ℕ) → 1 < K → 1 < K * K
square_above_one K h = let g : K * 2 ≤ K * K = mul-le-mul_left K h in omega arith

-- The step over remainders by the whole modulus.
doubles_by : (v x K m : ℕ) → 0 < K → 0 < K * K * m → v * x % K ≡ 1 → v * (x * ((2 + (K * K * m - v * x % (K * K * m))) % (K * K * m)) % (K * K * m)) % (K * K) ≡ 1
doubles_by v x K m some whole one =
    let e = v * x / (K * K * m) in
    let t = v * x % (K * K * m) in
    let q = t / K in
    let d = (2 + (K * K * m - t)) / (K * K * m) in
    let s = (2 + (K * K * m - t)) % (K * K * m) in
    let c = x * s / (K * K * m) in
    let y = x * s % (K * K * m) in
    let product : K * K * m * e + t ≡ v * x = div-add-mod (v * x) (K * K * m) in
    let part : K * (K * m * e) + t ≡ v * x = omega (arith, product) in
    let rest : t % K ≡ 1 = sym (mul-add-mod_self_left K (K * m * e) t) ∙ ap (λ n. n % K) part ∙ one in
    let unit : K * q + 1 ≡ t = ap (λ n. K * q + n) (sym rest) ∙ div-add-mod t K in
    let less : t < K * K * m = mod-lt (v * x) whole in
    let left : K * K * m * d + s ≡ 2 + (K * K * m - t) = div-add-mod (2 + (K * K * m - t)) (K * K * m) in
    let complement : s + K * K * m * d + t ≡ 2 + K * K * m = omega (arith, left, less) in
    let new : K * K * m * c + y ≡ x * s = div-add-mod (x * s) (K * K * m) in
    let all = newton v x K m e t q s d c y product unit complement new in
    sym (add-mul-mod_self_left (v * y) (K * K) (v * m * c + m * d * t + q * q)) ∙ ap (λ n. n % (K * K)) all ∙ add-mul-mod_self_left 1 (K * K) (m * e * s + m * t) ∙ mod-eq_of_lt (square_above_one K (above_one (v * x) K some one))

-- The step over the machine's products.
pub doubles : (v x bits : ℕ) → bits ≤ 16 → v * x % 2 ^ bits ≡ 1 → v * (x * ((2 + (4294967296 - v * x % 4294967296)) % 4294967296) % 4294967296) % 2 ^ (bits + bits) ≡ 1
doubles v x bits small one =
    let K = 2 ^ bits in
    let m = 2 ^ (32 - (bits + bits)) in
    let square : 2 ^ (bits + bits) ≡ K * K = pow-add 2 bits bits in
    let sum : 32 ≡ (bits + bits) + (32 - (bits + bits)) = omega arith in
    let whole : 4294967296 ≡ K * K * m = ap (λ n. 2 ^ n) sum ∙ pow-add 2 (bits + bits) (32 - (bits + bits)) ∙ ap (λ n. n * m) square in
    let P : ℕ → ℕ → Type 0 = λ M N. v * (x * ((2 + (M - v * x % M)) % M) % M) % N ≡ 1 in
    let some : 0 < K * K * m = subst (λ n. 0 < n) whole (lit< tt) in
    subst (λ M. P M (2 ^ (bits + bits))) (sym whole) (subst (λ N. P (K * K * m) N) (sym square) (doubles_by v x K m (pow_pos bits) some one))

-- a power above another is at least twice it
twice : (j k : ℕ) → 2 ^ k < 2 ^ j → 2 * 2 ^ k ≤ 2 ^ j
twice j k lt = elim (cases_order j k) [
  | inl e ↦ let f = ap (λ n. 2 ^ n) e in absurd (omega (arith, f))
  | inr (inl l) ↦ let g = pow-lt l in absurd (omega (arith, g))
  | inr (inr l) ↦ let below : k + 1 ≤ j = omega arith in let h = pow_mono below in let p : 2 ^ (k + 1) ≡ 2 * 2 ^ k = pow-add 2 k 1 ∙ omega arith in omega (arith, h, p)
]

-- the next number whose digits are all 1
pub more_ones : (w : ℕ) → IsAllOnes w → IsAllOnes (2 * w + 1)
more_ones w f = (f.0 + 1, let e = f.1 in let p : 2 ^ (f.0 + 1) ≡ 2 * 2 ^ f.0 = pow-add 2 f.0 1 ∙ omega arith in omega (arith, e, p))

pub ones_above : (w n : ℕ) → IsAllOnes w → IsAllOnes n → w < n → 2 * w + 1 ≤ n
ones_above w n f g lt =
    let e = f.1 in
    let h = g.1 in
    let less : 2 ^ f.0 < 2 ^ g.0 = omega (arith, e, h) in
    let t = twice g.0 f.0 less in
    omega (arith, e, h, t)

pub most_ones : IsAllOnes (4294967295)
most_ones = (32, refl)

pub no_ones : IsAllOnes 0
no_ones = (0, refl)

pub extends : (low size half : ℕ) → size ≡ 2 * half → size ≤ 4294967296 → size / 2 ≤ low → low + 4294967296 - size ≡ cond (nat_lt low half) low (low + (4294967296 - size))
extends low size half twofold small high = rw (not_below low half (omega arith)) (omega arith) where
  not_below : (m n : ℕ) → n ≤ m → nat_lt m n ≡ false
  not_below m n le = grind (arith, nat_tests)
