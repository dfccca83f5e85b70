use Rattle.rept_steps.specs.Linked.{EndBefore}
use Rattle.tables_of_traces.proofs.runs.push_rows.Given as goal

abbrev pub invariant-loop-k : goal.invariant-loop-k
invariant-loop-k l = EndBefore l.steps l.at
