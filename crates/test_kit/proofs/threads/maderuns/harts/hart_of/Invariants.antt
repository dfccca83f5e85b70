use Rattle.std.proofs.Common.{◌≡◌, ◌++◌, [], take, drop}
use Rattle.test_kit.specs.Threads.Maderuns.Harts.{stretches_of}
use Rattle.test_kit.proofs.threads.maderuns.harts.hart_of.Given as goal

abbrev pub invariant-loop-i : goal.invariant-loop-i
invariant-loop-i l = l.hart ++ stretches_of l.threads l.stream (take l.i l.turns) (drop l.i l.turns) ≡ stretches_of l.threads l.stream [] l.turns
