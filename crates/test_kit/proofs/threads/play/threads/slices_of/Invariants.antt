use Rattle.std.proofs.Common.{◌≡◌, ◌+◌, ◌++◌, drop}
use Rattle.test_kit.specs.Threads.Turns.Turns.{rows_in, slices_from}
use Rattle.test_kit.proofs.threads.play.threads.slices_of.Given as goal

abbrev pub invariant-loop-turn : goal.invariant-loop-turn
invariant-loop-turn l = record {
  listed : l.slices ++ slices_from l.thread l.first (drop l.turn-index l.turns) ≡ slices_from l.thread 0 l.turns;
  counted : l.first + rows_in l.thread (drop l.turn-index l.turns) ≡ rows_in l.thread l.turns;
}
