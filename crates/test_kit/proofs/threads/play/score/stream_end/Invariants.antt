use Rattle.std.proofs.Common.{◌≡◌, max, drop}
use Rattle.test_kit.specs.Threads.Play.Drawn.{stream_end}
use Rattle.test_kit.proofs.threads.play.score.stream_end.Given as goal

abbrev pub invariant-loop-turn : goal.invariant-loop-turn
invariant-loop-turn l = max l.latest (stream_end l.stream (drop l.turn-index l.turns)) ≡ stream_end l.stream l.turns
