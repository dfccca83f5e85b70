use Rattle.std.proofs.Common.{◌≡◌, max, drop}
use Rattle.test_kit.specs.Threads.Play.Drawn.{last_begin}
use Rattle.test_kit.proofs.threads.play.score.last_begin.Given as goal

abbrev pub invariant-loop-turn : goal.invariant-loop-turn
invariant-loop-turn l = max l.latest (last_begin (drop l.turn-index l.turns)) ≡ last_begin l.turns
