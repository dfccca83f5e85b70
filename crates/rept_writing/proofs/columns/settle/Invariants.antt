use Rattle.std.proofs.Common.{◌≡◌}
use Rattle.std.specs.Vec.{vec_capacity}
use Rattle.rept_writing.proofs.Rising.{IsSettledFrom}
use Rattle.rept_writing.proofs.columns.settle.Given as goal

abbrev pub invariant-loop-p : goal.invariant-loop-p
invariant-loop-p l = record {
  settled : IsSettledFrom l.fn.numbers.items l.numbers.items l.p l.least;
  capacity : vec_capacity l.numbers ≡ vec_capacity l.fn.numbers;
}
