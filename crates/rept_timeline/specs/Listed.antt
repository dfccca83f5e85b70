-- The rows of several threads that may write memory by the form of their instructions, in the order
-- of their numbers. This project's own.
use Rattle.std.specs.Prelude.{◌≡◌, ℕ, zero, suc, ◌-◌, ◌≤◌, ◌<◌, if◌then◌else◌, List, [], ◌∷◌, ◌++◌, length, true, Option, slice_index_or}
use Rattle.std.specs.Option.{IsSome}
use Rattle.std.specs.List.{Contains}
use Rattle.rept_steps.specs.Course.{Course, IsSoundCourse}
use Rattle.rept_order.specs.Moments.{stores}
use Rattle.rept_report.specs.Moments.{Moments}
use Rattle.rept_report.specs.Timeline.{Timeline, IsLeastFrom}
use Rattle.rept_moments.specs.Naming.Numbered.{row_on}
use Rattle.rept_moments.specs.Points.{points_in}
use Rattle.rept_moments.specs.declared.course.NumberedRun as courses
use Rattle.rept_extents.specs.declared.carry.lines.Lines.{Lines}
use Rattle.rept_extents.specs.Carry.Lines.{AreLines, IsIn}
use Rattle.rept_timeline.specs.declared.storing.ListPart.{ListPart}

-- of the first so many points
abbrev pub storing_to : Course → ℕ → List ℕ
storing_to C zero = []
storing_to C (suc g) = if stores C (row_on C g) then storing_to C g ++ g ∷ [] else storing_to C g

-- no row leads from the last point
abbrev pub storing_in : Course → List ℕ
storing_in C = storing_to C (points_in C - 1)

-- the list has them all
pub record AreStoring (C : Course) (list : List ℕ) : Type 0 where
  pub sound : IsSoundCourse C
  pub all : list ≡ storing_in C

-- of several threads; of one thread alone no list is looked at
abbrev pub AreListed : courses.NumberedRun → List ℕ → Type 0
AreListed (courses.TheVariants.One steps) list = Unit {0}
AreListed (courses.TheVariants.Many many) list = AreStoring many list

-- the least one of the list from one on, or that there is none
abbrev pub IsFirstFrom : List ℕ → ℕ → Option ℕ → Type 0
IsFirstFrom list least found = IsLeastFrom (λ i. Contains list i) least found

-- in a part of the list those rows come first that lie wholly before a moment
pub record ArePastFirst (t : Timeline) (list : List ℕ) (part : ListPart) (m : ℕ) : Type 0 where
  pub order : part.low ≤ part.high
  pub inside : part.high ≤ length list
  pub rows : (k : ℕ) → part.low ≤ k → k < part.high → IsSome (t.legs.row (slice_index_or list k 0))
  pub first : (j k : ℕ) → part.low ≤ j → j ≤ k → k < part.high → t.moments.past (slice_index_or list k 0) m ≡ true → t.moments.past (slice_index_or list j 0) m ≡ true

-- these are the lines of the moments, and each number has one
pub record AreLinesOf (M : Moments) (lines : Lines) : Type 0 where
  pub each : AreLines M lines
  pub inside : (m : ℕ) → m ≤ M.end → IsIn lines m
