-- Sums over the numbers below one. This project's own.
use Rattle.std.specs.Prelude.{ℕ, zero, suc, ◌+◌, Bool, true, false}

abbrev pub one_if : Bool → ℕ
one_if true = 1
one_if false = 0

-- how many numbers below n have the property
unfoldable pub count_true : (ℕ → Bool) → ℕ → ℕ
count_true P zero = 0
count_true P (suc n) = one_if (P n) + count_true P n

-- the sum over the numbers below n
unfoldable pub sum_to : (ℕ → ℕ) → ℕ → ℕ
sum_to f zero = 0
sum_to f (suc n) = f n + sum_to f n
