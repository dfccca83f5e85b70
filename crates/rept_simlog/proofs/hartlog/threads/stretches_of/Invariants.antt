use Rattle.std.proofs.Common.{◌+◌, ◌≤◌, ◌^◌, length}
use Rattle.std.specs.List.{All}
use Rattle.rept_simlog.specs.Program.{program_of}
use Rattle.rept_encode.specs.Walkable.{IsWalkable}
use Rattle.rept_simlog.specs.Hartlog.Log.{AreLines}
use Rattle.rept_simlog.proofs.HartlogLemmas.Pieces.{Progress}
use Rattle.rept_simlog.proofs.hartlog.threads.stretches_of.Given as goal

abbrev pub invariant-loop-rest : goal.invariant-loop-rest
invariant-loop-rest l = record {
  progress : Progress (program_of l.program) l.entries l.rest l.stretches;
  lines : AreLines l.rest;
  few : length l.rest ≤ 65537;
  walkable : All (λ s. IsWalkable l.program.halves s.steps) l.stretches;
  short : All (λ s. s.begin + length s.steps ≤ 2 ^ 32) l.stretches;
}

abbrev pub decreases-loop-rest : goal.decreases-loop-rest
decreases-loop-rest l = length l.rest
