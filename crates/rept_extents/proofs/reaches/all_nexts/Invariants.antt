use Rattle.std.proofs.Common.{◌≡◌, length}
use Rattle.rept_moments.specs.Courses.{seen_in}
use Rattle.rept_extents.specs.Tables.{AreEach, NextsLieIn}
use Rattle.rept_extents.proofs.reaches.all_nexts.Given as goal

abbrev pub invariant-loop-number : goal.invariant-loop-number
invariant-loop-number l = record {
  count : length l.list.items ≡ l.number;
  each : AreEach (NextsLieIn (seen_in l.ways).moments) l.list.items;
}
