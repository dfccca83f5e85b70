use Rattle.std.proofs.Common.{◌≡◌}
use Rattle.rept_steps.specs.Runs.{course_of}
use Rattle.rept_steps.specs.Tested.{end_to}
use Rattle.rept_steps.proofs.sound.all_end.Given as goal

abbrev pub invariant-loop-number : goal.invariant-loop-number
invariant-loop-number l = l.kept ≡ end_to (course_of l.run) l.number
