use Rattle.std.proofs.Common.{◌≡◌, length}
use Rattle.rept_moments.specs.Several.{seen_of}
use Rattle.rept_extents.specs.Timelines.{as_timeline}
use Rattle.rept_extents.specs.Extents.{AreExtents}
use Rattle.rept_extents.proofs.extents.windows.Given as goal

abbrev pub invariant-loop-row : goal.invariant-loop-row
invariant-loop-row l = record {
  extents : AreExtents (as_timeline (seen_of l.many)) l.windows.items;
  total : length l.windows.items ≡ l.row;
}
