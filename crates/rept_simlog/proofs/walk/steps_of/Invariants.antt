use Rattle.std.proofs.Common.{◌≡◌, length, slice_get, Some}
use Rattle.std.specs.List.{All}
use Rattle.rept_simlog.specs.Program.{program_of}
use Rattle.rept_steps.specs.Linked.{EndBefore}
use Rattle.rept_encode.specs.Walkable.{IsStepped}
use Rattle.rept_simlog.specs.declared.entry.LogLine.{LogLine}
use Rattle.rept_simlog.specs.Walk.{Along, MayGo}
use Rattle.rept_simlog.proofs.walk.steps_of.Given as goal

abbrev pub invariant-loop-i : goal.invariant-loop-i
invariant-loop-i l = record {
  code : program_of l.program ≡ program_of l.initial.program;
  count : length l.steps ≡ l.i;
  along : Along (program_of l.initial.program) l.entries l.steps;
  steps : All (IsStepped l.program.halves) l.steps;
  leads : MayGo (program_of l.initial.program) l.entries l.i;
  ends : (last : LogLine) → slice_get l.entries l.i ≡ Some last → EndBefore l.steps last.address;
}
