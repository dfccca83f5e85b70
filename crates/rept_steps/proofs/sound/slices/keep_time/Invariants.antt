use Rattle.std.proofs.Common.{◌≡◌}
use Rattle.rept_steps.specs.Tested.{keeps_to}
use Rattle.rept_steps.proofs.sound.slices.keep_time.Given as goal

abbrev pub invariant-loop-number : goal.invariant-loop-number
invariant-loop-number l = l.kept ≡ keeps_to l.slices l.number
