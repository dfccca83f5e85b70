-- Sums over numbers, term by term.
use Rattle.std.proofs.Common.{◌≡◌, ℕ, zero, suc, ◌<◌, ◌≤◌, Bool, true, false, inl, inr, refl, arith}
use Rattle.std.proofs.lemmas.Bool.{cases_eq}
use Rattle.rept_facts.specs.Sums.{one_if, count_true, sum_to}

one_le : (x y : Bool) → (x ≡ true → y ≡ true) → one_if x ≤ one_if y
one_le true y h = rw (h refl) (omega arith)
one_le false true h = omega arith
one_le false false h = omega arith

pub count_le : (P Q : ℕ → Bool) (n : ℕ) → ((k : ℕ) → k < n → Q k ≡ true → P k ≡ true) → count_true Q n ≤ count_true P n
unfolding count_true
count_le P Q zero h = omega arith
count_le P Q (suc n) h =
    let older = count_le P Q n (λ k lt e. h k (omega (arith, lt)) e) in
    let here = one_le (Q n) (P n) (h n (omega arith)) in
    omega (arith, older, here)

pub count_less : (P Q : ℕ → Bool) (n k : ℕ) → ((j : ℕ) → j < n → Q j ≡ true → P j ≡ true) → k < n → P k ≡ true → Q k ≡ false → count_true Q n < count_true P n
unfolding count_true
count_less P Q zero k h lt p q = absurd (omega (arith, lt))
count_less P Q (suc n) k h lt p q =
    elim (cases_eq k n) [
      | inl e ↦
          let older = count_le P Q n (λ j below x. h j (omega (arith, below)) x) in
          let one : one_if (P n) ≡ 1 = rw (← e, p) refl in
          let none : one_if (Q n) ≡ 0 = rw (← e, q) refl in
          omega (arith, older, one, none)
      | inr ne ↦
          let older = count_less P Q n k (λ j below x. h j (omega (arith, below)) x) (omega (arith, lt, ne)) p q in
          let here = one_le (Q n) (P n) (h n (omega arith)) in
          omega (arith, older, here)
    ]

pub sum_le : (f g : ℕ → ℕ) (n : ℕ) → ((k : ℕ) → k < n → g k ≤ f k) → sum_to g n ≤ sum_to f n
unfolding sum_to
sum_le f g zero h = omega arith
sum_le f g (suc n) h =
    let older = sum_le f g n (λ k lt. h k (omega (arith, lt))) in
    let here = h n (omega arith) in
    omega (arith, older, here)

pub sum_less : (f g : ℕ → ℕ) (n k : ℕ) → ((j : ℕ) → j < n → g j ≤ f j) → k < n → g k < f k → sum_to g n < sum_to f n
unfolding sum_to
sum_less f g zero k h lt less = absurd (omega (arith, lt))
sum_less f g (suc n) k h lt less =
    elim (cases_eq k n) [
      | inl e ↦
          let older = sum_le f g n (λ j below. h j (omega (arith, below))) in
          let here : g n < f n = rw (← e) less in
          omega (arith, older, here)
      | inr ne ↦
          let older = sum_less f g n k (λ j below. h j (omega (arith, below))) (omega (arith, lt, ne)) less in
          let here = h n (omega arith) in
          omega (arith, older, here)
    ]
