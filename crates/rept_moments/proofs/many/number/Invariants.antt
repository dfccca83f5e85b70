use Rattle.std.proofs.Common.{◌≡◌, ◌≤◌, length, take}
use Rattle.rept_moments.specs.Naming.Making.{lasts}
use Rattle.rept_moments.specs.Points.{points_in}
use Rattle.rept_moments.specs.Ordering.{back}
use Rattle.rept_moments.specs.Tables.{moments_at}
use Rattle.rept_moments.proofs.many.number.Given as goal

abbrev pub invariant-loop-timed : goal.invariant-loop-timed
invariant-loop-timed l = record {
  kept : moments_at l.points l.numbers.list ≡ lasts l.points (back l.points (take l.timed-index l.moments));
  points : l.numbers.points ≡ points_in l.points;
  few : length l.numbers.list ≤ l.timed-index;
}
