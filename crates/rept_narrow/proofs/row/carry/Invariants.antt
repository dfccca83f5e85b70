use Rattle.std.proofs.Common.{◌≡◌, Some, slice_get}
use Rattle.rept_narrow.specs.Admitted.{Story}
use Rattle.rept_narrow.specs.Rules.{KeepsSets}
use Rattle.rept_narrow.proofs.row.carry.Given as goal

abbrev pub invariant-loop-number : goal.invariant-loop-number
invariant-loop-number l = record {
  points : l.table.points ≡ l.fn.table.points;
  keeps : (story : Story) → slice_get story.rows l.index ≡ Some l.row → KeepsSets story l.fn.table l.table;
}
