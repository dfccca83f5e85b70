use Rattle.std.proofs.Common.{◌≡◌, ◌+◌, drop}
use Rattle.test_kit.specs.Threads.Turns.Turns.{all_rows}
use Rattle.test_kit.proofs.threads.play.count.all_rows.Given as goal

abbrev pub invariant-loop-turn : goal.invariant-loop-turn
invariant-loop-turn l = l.rows + all_rows (drop l.turn-index l.turns) ≡ all_rows l.turns
