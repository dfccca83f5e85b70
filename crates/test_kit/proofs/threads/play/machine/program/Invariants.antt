use Rattle.std.proofs.Common.{◌≡◌, ℕ, ◌<◌, Some, length, slice_index}
use Rattle.rept_isa.specs.Words.{IsWord}
use Rattle.test_kit.specs.declared.threads.turns.turn.Turn.{Turn}
use Rattle.test_kit.specs.Threads.Turns.Turns.{turn_at}
use Rattle.test_kit.specs.Threads.Play.Code.{played_at}
use Rattle.test_kit.proofs.threads.play.machine.program.Given as goal

abbrev pub invariant-loop-k : goal.invariant-loop-k
invariant-loop-k l = record {
  size : length l.words.items ≡ l.k;
  spell : (j : ℕ) (turn : Turn) → j < l.k → turn_at l.turns j ≡ Some turn → IsWord (slice_index l.words.items j) (played_at l.code l.turns turn j);
}
