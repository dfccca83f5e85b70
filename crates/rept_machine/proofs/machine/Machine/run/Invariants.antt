use Rattle.std.proofs.Common.{◌≡◌, List, length}
use Rattle.rept_isa.specs.declared.row.StepRow.{StepRow}
use Rattle.rept_machine.proofs.Running.{Ran}
use Rattle.rept_machine.proofs.machine.Machine.run.Given as goal

abbrev pub invariant-loop : goal.invariant-loop
invariant-loop l = (rows : List StepRow) × (length rows ≡ l.counter) × Ran l.fn.self l.self rows
