use Rattle.std.proofs.Common.{◌≡◌, max, drop}
use Rattle.test_kit.specs.Threads.Play.Drawn.{thread_end}
use Rattle.test_kit.proofs.threads.play.score.thread_end.Given as goal

abbrev pub invariant-loop-turn : goal.invariant-loop-turn
invariant-loop-turn l = max l.latest (thread_end l.thread (drop l.turn-index l.turns)) ≡ thread_end l.thread l.turns
