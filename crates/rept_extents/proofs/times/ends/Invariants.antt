use Rattle.std.proofs.Common.{◌≡◌, suc, length}
use Rattle.rept_extents.specs.Times.{AllBefore, AreEndTimes}
use Rattle.rept_extents.proofs.times.ends.Given as goal

abbrev pub invariant-loop-number : goal.invariant-loop-number
invariant-loop-number l = record {
  times : AreEndTimes l.many l.list.items;
  known : AllBefore l.many l.number (suc l.most);
  total : length l.list.items ≡ l.number;
}
