-- The tables from which the numbers of several threads are told, and when they are right. This
-- project's own.
use Rattle.std.specs.Prelude.{◌≡◌, ◌<◌, ◌≤◌, ◌^◌, Bool, List, [], ◌∷◌, length}
use Rattle.rept_steps.specs.Course.{Course, IsSoundCourse}
use Rattle.rept_order.specs.Moments.{Moment}
use Rattle.rept_moments.specs.Naming.Making.{lasts}
use Rattle.rept_moments.specs.declared.begins.SliceStart.{SliceStart}
use Rattle.rept_moments.specs.declared.side.PointSide.{PointSide}
use Rattle.rept_moments.specs.Begins.{AreBegins}
use Rattle.rept_moments.specs.Points.{points_in, by_point}
use Rattle.rept_moments.specs.Ordering.{moment_at_side, in_order}
use Rattle.rept_moments.specs.Merging.{merged_at}
use Rattle.rept_moments.specs.Numbering.{Numbered}

-- as moments
abbrev pub moments_at : Course → List PointSide → List Moment
moments_at C [] = []
moments_at C (s ∷ list) = moment_at_side C s ∷ moments_at C list

pub record AreTables (C : Course) (slices : List SliceStart) (numbers : Numbered) (merged : List Bool) : Type 0 where
  pub sound : IsSoundCourse C
  pub small : points_in C ≤ 66560
  pub begins : AreBegins C slices
  pub table : merged ≡ by_point (merged_at C) (points_in C)
  pub points : numbers.points ≡ points_in C
  pub kept : moments_at C numbers.list ≡ lasts C (in_order C)
  pub fits : length numbers.list < 2 ^ 32
