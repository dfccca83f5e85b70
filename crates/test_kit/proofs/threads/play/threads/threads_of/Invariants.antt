use Rattle.std.proofs.Common.{◌≡◌, ℕ, Some, length, slice_get}
use Rattle.rept_steps.specs.declared.threads.ThreadRows.{ThreadRows}
use Rattle.test_kit.specs.Threads.Play.Code.{IsThread}
use Rattle.test_kit.proofs.threads.play.threads.threads_of.Given as goal

abbrev pub invariant-loop-thread : goal.invariant-loop-thread
invariant-loop-thread l = record {
  size : length l.threads ≡ l.thread;
  each : (t : ℕ) (rows : ThreadRows) → slice_get l.threads t ≡ Some rows → IsThread l.code l.turns t rows;
}
