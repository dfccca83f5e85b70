use Rattle.std.proofs.Common.{◌≡◌, ◌+◌, length}
use Rattle.rept_moments.specs.Numbers.{numbers_of}
use Rattle.rept_extents.specs.Times.{AllFrom, AreBegins}
use Rattle.rept_extents.proofs.times.begins.Given as goal

abbrev pub invariant-loop-number : goal.invariant-loop-number
invariant-loop-number l = record {
  times : AreBegins l.many (numbers_of l.many).end l.list.items;
  known : AllFrom l.many l.number (numbers_of l.many).end l.least;
  total : length l.list.items + l.number ≡ (numbers_of l.many).end;
}

abbrev pub decreases-loop-number : goal.decreases-loop-number
decreases-loop-number l = l.number
