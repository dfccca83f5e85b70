use Rattle.std.specs.List.{All}
use Rattle.rept_steps.specs.Linked.{EndBefore}
use Rattle.rept_encode.specs.Walkable.{IsStepped}
use Rattle.tables_of_traces.proofs.stretches.steps_of.Given as goal

abbrev pub invariant-loop-step : goal.invariant-loop-step
invariant-loop-step l = record {
  steps : All (IsStepped l.halves) l.steps;
  ends : EndBefore l.steps l.at;
}
