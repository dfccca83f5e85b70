use Rattle.std.proofs.Common.{◌≡◌, ℕ, ◌<◌, ◌%◌, Some, length, slice_get}
use Rattle.rept_steps.specs.Linked.{EndBefore}
use Rattle.test_kit.specs.Threads.Play.Code.{address_in, row_in}
use Rattle.test_kit.proofs.threads.play.threads.steps_of.Given as goal

abbrev pub invariant-loop-i : goal.invariant-loop-i
invariant-loop-i l = record {
  size : length l.steps ≡ l.i;
  rows : (k : ℕ) → k < l.i → slice_get l.steps k ≡ Some (row_in l.code l.thread k);
  ends : EndBefore l.steps (address_in l.thread (l.i % 16));
}
