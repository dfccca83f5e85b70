-- The moments of a course, and how many of them are later than one. This project's own.
use Rattle.std.specs.Prelude.{ℕ, zero, suc, ◌<◌, if◌then◌else◌, List, [], ◌∷◌, ◌++◌, length}
use Rattle.rept_steps.specs.Course.{Course, row_of, rows_of}
use Rattle.rept_order.specs.Moments.{Moment, IsMoment, IsNext}
use Rattle.rept_order.specs.Moments.Moment.{before, after, at_end}
use Rattle.rept_order.specs.Times.{is_earlier}

-- the moments of so many rows of a thread, and of so many threads
abbrev pub row_moments : ℕ → ℕ → List Moment
row_moments t zero = []
row_moments t (suc n) = before (row_of t n) ∷ after (row_of t n) ∷ row_moments t n

abbrev pub all_moments : Course → ℕ → List Moment
all_moments C zero = at_end ∷ []
all_moments C (suc t) = row_moments t (length (rows_of C t)) ++ all_moments C t

abbrev pub later_count : Course → Moment → List Moment → ℕ
later_count C m [] = 0
later_count C m (x ∷ xs) = if is_earlier C m x then suc (later_count C m xs) else later_count C m xs

-- how many moments are later
abbrev pub moments_left : Course → Moment → ℕ
moments_left C m = later_count C m (all_moments C (length C.threads))

-- a next moment, from which fewer are later
pub record HasNextMoment (C : Course) (m : Moment) : Type 0 where
  pub to : Moment
  pub is : IsMoment C to
  pub next : IsNext C m to
  pub nearer : moments_left C to < moments_left C m
