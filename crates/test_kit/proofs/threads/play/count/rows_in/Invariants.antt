use Rattle.std.proofs.Common.{◌≡◌, ◌+◌, drop}
use Rattle.test_kit.specs.Threads.Turns.Turns.{rows_in}
use Rattle.test_kit.proofs.threads.play.count.rows_in.Given as goal

abbrev pub invariant-loop-turn : goal.invariant-loop-turn
invariant-loop-turn l = l.rows + rows_in l.thread (drop l.turn-index l.turns) ≡ rows_in l.thread l.turns
