use Rattle.std.proofs.Common.{◌≢◌, ℕ, ◌<◌, slice_index}
use Rattle.rept_simlog.proofs.hartlog.log.names_harts.Given as goal

abbrev pub invariant-loop-i : goal.invariant-loop-i
invariant-loop-i l = record {
  line : (k : ℕ) → k < l.i → slice_index l.log k ≢ 10;
  word : (k : ℕ) → k < l.i → slice_index l.log k ≢ 32;
}
