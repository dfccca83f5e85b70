-- Words of 32 bits: sign extension (RISC-V unprivileged manual, chapter 2.3), and the numbers whose
-- binary digits are all 1.
use Rattle.std.specs.Prelude.{◌≡◌, ℕ, ◌+◌, ◌-◌, ◌%◌, ◌^◌, ◌≤◌, nat_lt, if◌then◌else◌}

-- the low bits of v, as a number of so many bits in two's complement, written with 32 bits
abbrev pub sign_extended : ℕ → ℕ → ℕ
sign_extended v bits = if nat_lt (v % 2 ^ bits) (2 ^ (bits - 1)) then v % 2 ^ bits else v % 2 ^ bits + (2 ^ 32 - 2 ^ bits)

-- n is 2^k - 1 for some k
abbrev pub IsAllOnes : ℕ → Type 0
IsAllOnes n = (k : ℕ) × (n + 1 ≡ 2 ^ k)

-- w is the least such number that is at least v
pub record IsCover (v w : ℕ) : Type 0 where
  pub form : IsAllOnes w
  pub above : v ≤ w
  pub least : (n : ℕ) → IsAllOnes n → v ≤ n → w ≤ n
