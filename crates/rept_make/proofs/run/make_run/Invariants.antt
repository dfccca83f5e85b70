use Rattle.std.proofs.Common.{◌≡◌, length}
use Rattle.rept_make.specs.Ran.{RanRows}
use Rattle.rept_make.proofs.run.make_run.Given as goal

abbrev pub invariant-loop-i : goal.invariant-loop-i
invariant-loop-i l = record {
  ran : RanRows l.seed l.code l.machine l.steps;
  size : length l.steps ≡ l.i;
}
