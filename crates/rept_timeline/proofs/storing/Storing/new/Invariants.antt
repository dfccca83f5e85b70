use Rattle.std.proofs.Common.{◌≡◌}
use Rattle.rept_timeline.specs.Listed.{storing_to}
use Rattle.rept_timeline.proofs.storing.Storing.new.Given as goal

abbrev pub invariant-loop-row : goal.invariant-loop-row
invariant-loop-row l = record {
  list : l.list.items ≡ storing_to l.many l.row;
}
