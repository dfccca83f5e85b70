use Rattle.std.proofs.Common.{◌≡◌, None, take}
use Rattle.std.specs.List.{fold}
use Rattle.rept_questions.specs.Trail.{greater}
use Rattle.rept_questions.proofs.trail.greatest_below.Given as goal

abbrev pub invariant-loop-number : goal.invariant-loop-number
invariant-loop-number l = l.greatest ≡ fold (greater l.limit) None (take l.number-index l.numbers)
