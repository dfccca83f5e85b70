-- The row that is no call and has two moments before and after it. This project's own.
use Rattle.std.specs.Prelude.{◌≡◌, ℕ, ◌==◌, ◌&&◌, not, if◌then◌else◌, false, Option, Some, None}
use Rattle.rept_steps.specs.Course.{Course, IsRow, calls}
use Rattle.rept_order.specs.Moments.Moment.{before, after}
use Rattle.rept_moments.specs.Naming.Numbered.{row_on}
use Rattle.rept_moments.specs.Numbers.{numbers_of}

-- the row that leads from the point, if it is no call, with this number after it
abbrev pub own_to : Course → ℕ → ℕ → Option ℕ
own_to C i w = if not (calls C (row_on C i)) && ((numbers_of C).name (after (row_on C i)) == w) then Some i else None

-- a row that is no call, with these numbers before and after it
pub record IsOwn (C : Course) (m w i : ℕ) : Type 0 where
  pub row : IsRow C (row_on C i)
  pub plain : calls C (row_on C i) ≡ false
  pub before : (numbers_of C).name (before (row_on C i)) ≡ m
  pub after : (numbers_of C).name (after (row_on C i)) ≡ w

abbrev pub IsOwnBetween : Course → ℕ → ℕ → Option ℕ → Type 0
IsOwnBetween C m w None = (i : ℕ) → IsOwn C m w i → ⊥
IsOwnBetween C m w (Some i) = IsOwn C m w i
