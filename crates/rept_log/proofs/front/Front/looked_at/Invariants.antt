use Rattle.std.proofs.Common.{◌≡◌, map, take, length}
use Rattle.rept_log.specs.Fronts.{basis_of, front_of, looked_by}
use Rattle.rept_log.proofs.front.Front.looked_at.Given as goal

abbrev pub invariant-loop-tell : goal.invariant-loop-tell
invariant-loop-tell g l = record {
  looked : l.ranges.items ≡ map (looked_by (front_of g.W.Partial.sets g.W.Transfer.moves g.R.RowRules.rules (basis_of l.self)) l.i) (take l.tell-index l.tells);
  room : l.ranges.capacity ≡ 8;
  count : length l.ranges.items ≡ l.tell-index;
}
