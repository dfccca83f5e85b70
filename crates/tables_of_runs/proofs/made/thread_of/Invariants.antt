use Rattle.rept_steps.specs.Linked.{EndBefore}
use Rattle.tables_of_runs.proofs.made.thread_of.Given as goal

abbrev pub invariant-loop-part : goal.invariant-loop-part
invariant-loop-part l = EndBefore l.steps 0
