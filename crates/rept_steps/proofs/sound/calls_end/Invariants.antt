use Rattle.std.proofs.Common.{◌≡◌}
use Rattle.rept_steps.specs.Tested.{calls_end_to}
use Rattle.rept_steps.proofs.sound.calls_end.Given as goal

abbrev pub invariant-loop-step : goal.invariant-loop-step
invariant-loop-step l = l.kept ≡ calls_end_to l.thread l.step
