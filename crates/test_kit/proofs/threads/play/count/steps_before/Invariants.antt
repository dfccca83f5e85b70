use Rattle.std.proofs.Common.{◌≡◌, ◌+◌, ◌≤◌, drop}
use Rattle.test_kit.specs.Threads.Turns.Turns.{steps_before}
use Rattle.test_kit.proofs.threads.play.count.steps_before.Given as goal

abbrev pub invariant-loop-turn : goal.invariant-loop-turn
invariant-loop-turn l = (l.steps + steps_before l.thread (drop l.turn-index l.turns) l.rest ≡ steps_before l.thread l.turns l.k) × (l.steps + l.rest ≤ l.k)
