-- Ranges of numbers, from the front.
use Rattle.std.proofs.Common.{◌≡◌, ℕ, suc, ◌+◌, ◌-◌, ◌<◌, ◌∷◌, Bool, true, false, Some, arith, refl, ◌∙◌, ap}
use Rattle.std.specs.List.{find, range_with_len}

-- the first number of a range
pub range_front : (a b : ℕ) → a < b → range_with_len a (b - a) ≡ a ∷ range_with_len (a + 1) (b - (a + 1))
range_front a b h = by_count (b - (a + 1)) (b - a) (omega arith)
  where
    by_count : (n m : ℕ) → m ≡ suc n → range_with_len a m ≡ a ∷ range_with_len (a + 1) n
    by_count n m e = rw e refl

-- it doesn't pass
pub find_on : (test : ℕ → Bool) (a b : ℕ) → a < b → test a ≡ false → find test (range_with_len a (b - a)) ≡ find test (range_with_len (a + 1) (b - (a + 1)))
find_on test a b h e = ap (find test) (range_front a b h) ∙ rw e refl

-- or it is the first one that does
pub find_here : (test : ℕ → Bool) (a b : ℕ) → a < b → test a ≡ true → find test (range_with_len a (b - a)) ≡ Some a
find_here test a b h e = ap (find test) (range_front a b h) ∙ rw e refl
