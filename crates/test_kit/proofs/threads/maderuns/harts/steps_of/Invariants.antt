use Rattle.std.proofs.Common.{◌≡◌, take}
use Rattle.test_kit.proofs.threads.maderuns.harts.steps_of.Given as goal

abbrev pub invariant-loop-i : goal.invariant-loop-i
invariant-loop-i l = l.steps ≡ take l.i l.rows
