use Rattle.std.proofs.Common.{◌≡◌, ◌+◌, ◌++◌}
use Rattle.std.specs.Vec.{vec_len, vec_capacity}
use Rattle.rept_writing.specs.Filed.{hits_from}
use Rattle.rept_writing.proofs.narrow.push_from.Given as goal

abbrev pub invariant-loop-step : goal.invariant-loop-step
invariant-loop-step l = record {
  items : l.narrow.items ≡ l.fn.narrow.items ++ hits_from l.first l.step l.index;
  len : vec_len l.narrow ≡ vec_len l.fn.narrow + l.step;
  capacity : vec_capacity l.narrow ≡ vec_capacity l.fn.narrow;
}
