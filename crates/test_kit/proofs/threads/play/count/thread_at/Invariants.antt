use Rattle.std.proofs.Common.{◌≡◌, drop}
use Rattle.test_kit.specs.Threads.Turns.Turns.{turn_at}
use Rattle.test_kit.proofs.threads.play.count.thread_at.Given as goal

abbrev pub invariant-loop-turn : goal.invariant-loop-turn
invariant-loop-turn l = turn_at l.turns l.k ≡ turn_at (drop l.turn-index l.turns) l.rest
