-- The first number of a stretch at which something holds, one number at a time.
use Rattle.std.proofs.Common.{◌≡◌, ℕ, suc, ◌+◌, Bool, Some, cond, ap}
use Rattle.std.specs.List.{find, range_with_len}

pub first_more : (test : ℕ → Bool) (a n m : ℕ) → n ≡ suc m → find test (range_with_len a n) ≡ cond (test a) (Some a) (find test (range_with_len (a + 1) m))
first_more test a n m is = ap (λ k. find test (range_with_len a k)) is
