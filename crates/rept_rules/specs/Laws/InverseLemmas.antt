-- The inverse of an odd word.
use Rattle.std.proofs.Common.{◌≡◌, ℕ, ◌+◌, ◌-◌, ◌*◌, ◌/◌, ◌%◌, ◌^◌, ◌<◌, sym, ap, ◌∙◌, arith, lit<}
use Rattle.std.proofs.lemmas.Nat.{mul-mod_first, mul-mod_second}
use Rattle.std.proofs.Math.Nat.{add-mul-mod_self_left, div-add-mod, mod-eq_of_lt}
use Rattle.rept_rules.specs.Inverse.{refined, inverse}

-- a remainder of a word is that of the whole number
abbrev KeepsRemainders : ℕ → Type 0
KeepsRemainders k = (a : ℕ) → a % 2 ^ 32 % k ≡ a % k

-- a step of Newton's iteration: with p = v x = q k + 1 it is p (2 - p) = 1 - q q k k
doubled : (v x k : ℕ) → 1 < k * k → KeepsRemainders k → KeepsRemainders (k * k) → v * x % k ≡ 1 → v * refined v x % (k * k) ≡ 1
doubled v x k several part whole one =
    let p = v * x % 2 ^ 32 in
    let d = 2 ^ 32 - p in
    let q = p / k in
    let unit : k * q + 1 ≡ p = ap (λ (n : ℕ). k * q + n) (sym (part (v * x) ∙ one)) ∙ div-add-mod p k in
    let square = ap (λ (n : ℕ). n * n) unit in
    let complement : d + p ≡ 2 ^ 32 = omega arith in
    let product = ap (λ (n : ℕ). n * p) complement in
    let sum : p * (2 + d) + k * k * (q * q) ≡ 1 + 2 ^ 32 * p = omega (arith, unit, square, product) in
    let first : (1 + 2 ^ 32 * p) % 2 ^ 32 ≡ 1 = omega arith in
    let low : p * (2 + d) % (k * k) ≡ 1 = sym (add-mul-mod_self_left (p * (2 + d)) (k * k) (q * q)) ∙ ap (λ (n : ℕ). n % (k * k)) sum ∙ sym (whole (1 + 2 ^ 32 * p)) ∙ ap (λ (n : ℕ). n % (k * k)) first ∙ mod-eq_of_lt several in
    let s = (2 + d) % 2 ^ 32 in
    let turned : v * (x * s) ≡ v * x * s = omega arith in
    let words : v * refined v x % 2 ^ 32 ≡ p * (2 + d) % 2 ^ 32 = mul-mod_second v (x * s) (2 ^ 32) ∙ ap (λ (n : ℕ). n % 2 ^ 32) turned ∙ sym (mul-mod_first (v * x) s (2 ^ 32)) ∙ mul-mod_second p (2 + d) (2 ^ 32) in
    sym (whole (v * refined v x)) ∙ ap (λ (n : ℕ). n % (k * k)) words ∙ whole (p * (2 + d)) ∙ low

pub inverse-is : (v : ℕ) → v % 2 ≡ 1 → v * inverse v % 2 ^ 32 ≡ 1
unfolding inverse
inverse-is v odd =
    let one : v * 1 % 2 ≡ 1 = omega (arith, odd) in
    let two = refined v 1 in
    let four = refined v two in
    let eight = refined v four in
    let sixteen = refined v eight in
    doubled v sixteen 65536 (lit< tt) (λ a. omega arith) (λ a. omega arith)
    (doubled v eight 256 (lit< tt) (λ a. omega arith) (λ a. omega arith)
    (doubled v four 16 (lit< tt) (λ a. omega arith) (λ a. omega arith)
    (doubled v two 4 (lit< tt) (λ a. omega arith) (λ a. omega arith)
    (doubled v 1 2 (lit< tt) (λ a. omega arith) (λ a. omega arith) one))))

pub inverse-fits : (v : ℕ) → inverse v < 2 ^ 32
unfolding inverse
inverse-fits v = omega arith

-- a product with the inverse gives the other factor
pub undone : (a v x : ℕ) → a < 2 ^ 32 → v * x % 2 ^ 32 ≡ 1 → (v * a % 2 ^ 32) * x % 2 ^ 32 ≡ a
undone a v x small one =
    let turned : v * a * x ≡ a * (v * x) = omega arith in
    let last : a * 1 % 2 ^ 32 ≡ a = omega (arith, small) in
    mul-mod_first (v * a) x (2 ^ 32) ∙ ap (λ (n : ℕ). n % 2 ^ 32) turned ∙ sym (mul-mod_second a (v * x) (2 ^ 32)) ∙ ap (λ (n : ℕ). a * n % 2 ^ 32) one ∙ last

-- an odd word has one inverse
pub inverse-only : (v x : ℕ) → v % 2 ≡ 1 → x < 2 ^ 32 → v * x % 2 ^ 32 ≡ 1 → x ≡ inverse v
inverse-only v x odd small one =
    let fits = inverse-fits v in
    let turned : 1 * inverse v % 2 ^ 32 ≡ inverse v = omega (arith, fits) in
    let back : (v * x % 2 ^ 32) * inverse v % 2 ^ 32 ≡ x = undone x v (inverse v) small (inverse-is v odd) in
    sym back ∙ ap (λ (n : ℕ). n * inverse v % 2 ^ 32) one ∙ turned
