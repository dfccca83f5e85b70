use Rattle.std.proofs.Common.{◌≡◌}
use Rattle.test_kit.specs.Threads.Play.Drawn.{drawn_turns}
use Rattle.test_kit.proofs.threads.play.score.made_turns.Given as goal

abbrev pub invariant-loop-number : goal.invariant-loop-number
invariant-loop-number l = l.turns.items ≡ drawn_turns l.sizes l.seed l.number
