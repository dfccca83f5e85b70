use Rattle.std.specs.List.{All}
use Rattle.rept_simlog.specs.Program.{program_of}
use Rattle.rept_encode.specs.Walkable.{IsStepped}
use Rattle.rept_simlog.proofs.HartlogLemmas.Pieces.{Going}
use Rattle.rept_simlog.proofs.hartlog.threads.steps_of.Given as goal

abbrev pub invariant-loop-i : goal.invariant-loop-i
invariant-loop-i l = record {
  going : Going (program_of l.program) l.entries l.i l.steps;
  steps : All (IsStepped l.program.halves) l.steps;
}
