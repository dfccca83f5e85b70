-- The numbers of two harts, worked out by hand. Thread 0 runs row 0 from time 1 to 3, rows 1 and 2
-- from 5 to 9, and row 3 from 9 on; thread 1 runs row 0, a call, from 1 to 4, and row 1 from 4 to
-- 8. What happened until 1 isn't told.
use Rattle.std.proofs.Common.{◌≡◌, ℕ, refl}
use Rattle.rept_steps.specs.Course.{row_of}
use Rattle.rept_order.specs.Moments.Moment.{before, after}
use Rattle.rept_order.proofs.Examples.{two_harts}
use Rattle.rept_moments.specs.Numbers.{numbers_of}

abbrev before_row : ℕ → ℕ → ℕ
before_row t i = (numbers_of two_harts).name (before (row_of t i))

abbrev after_row : ℕ → ℕ → ℕ
after_row t i = (numbers_of two_harts).name (after (row_of t i))

-- something that isn't told may act after row 0, and the call after rows 1 and 2
first_before : before_row 0 0 ≡ 0
first_before = refl

first_after : after_row 0 0 ≡ 1
first_after = refl

second_before : before_row 0 1 ≡ 4
second_before = refl

second_after : after_row 0 1 ≡ 5
second_after = refl

third_before : before_row 0 2 ≡ 6
third_before = refl

third_after : after_row 0 2 ≡ 7
third_after = refl

fourth_before : before_row 0 3 ≡ 8
fourth_before = refl

-- nothing that writes may act after the last rows
fourth_after : after_row 0 3 ≡ 9
fourth_after = refl

-- the call returns in the slice of the next row
call_before : before_row 1 0 ≡ 2
call_before = refl

call_after : after_row 1 0 ≡ 3
call_after = refl

own_before : before_row 1 1 ≡ 3
own_before = refl

own_after : after_row 1 1 ≡ 9
own_after = refl

pub the_end : (numbers_of two_harts).end ≡ 9
the_end = refl
