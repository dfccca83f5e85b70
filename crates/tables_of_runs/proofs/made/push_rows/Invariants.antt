use Rattle.rept_steps.specs.Linked.{EndBefore}
use Rattle.tables_of_runs.proofs.made.push_rows.Given as goal

abbrev pub invariant-loop-told : goal.invariant-loop-told
invariant-loop-told l = EndBefore l.steps 0
