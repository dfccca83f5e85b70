use Rattle.std.proofs.Common.{◌≡◌, ℕ, suc, length, take, Some, slice_get}
use Rattle.rept_order.specs.declared.crossing.latest.Latest.{Latest}
use Rattle.rept_order.specs.Crossing.Latest.{TellsLatest}
use Rattle.rept_order.proofs.crossing.latest.latest_of_each.Given as goal

abbrev pub invariant-loop-writer : goal.invariant-loop-writer
invariant-loop-writer l = record {
  count : length l.latest.items ≡ suc l.writer-index;
  each : (k : ℕ) (x : Latest) → slice_get l.latest.items k ≡ Some x → TellsLatest (take k l.list) x;
  known : TellsLatest (take l.writer-index l.list) l.known;
}
