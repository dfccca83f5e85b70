-- Numbers of one thread whose moments have the same times. This project's own.
use Rattle.std.specs.Prelude.{◌≡◌, ℕ}
use Rattle.rept_steps.specs.Course.{Course}
use Rattle.rept_moments.specs.Naming.Numbered.{row_on}
use Rattle.rept_moments.specs.declared.side.PointSide.{PointSide}
use Rattle.rept_moments.specs.Edges.{begin_at, end_at}
use Rattle.rept_moments.specs.Numbers.{numbers_of}
use Rattle.rept_moments.specs.Ordering.{moment_at_side}

-- two moments of rows of one thread with the same times
pub record AreBeside (C : Course) (one other : PointSide) : Type 0 where
  pub thread : (row_on C one.point).thread ≡ (row_on C other.point).thread
  pub begin : begin_at C one ≡ begin_at C other
  pub end : end_at C one ≡ end_at C other

-- such a moment and a number
pub record IsTogether (C : Course) (one : PointSide) (k : ℕ) : Type 0 where
  pub other : PointSide
  pub last : (numbers_of C).last k ≡ moment_at_side C other
  pub beside : AreBeside C one other

-- two such numbers
pub record AreTogether (C : Course) (m k : ℕ) : Type 0 where
  pub one : PointSide
  pub last : (numbers_of C).last m ≡ moment_at_side C one
  pub together : IsTogether C one k
