use Rattle.std.proofs.Common.{◌≡◌, length}
use Rattle.rept_dump.specs.Registers.{first_twin}
use Rattle.rept_dump.proofs.threads.first_twin.Given as goal

abbrev pub invariant-loop-number : goal.invariant-loop-number
invariant-loop-number l = first_twin l.numbers ≡ first_twin l.rest

abbrev pub decreases-loop-number : goal.decreases-loop-number
decreases-loop-number l = length l.rest
