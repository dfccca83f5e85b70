use Rattle.std.proofs.Common.{◌≡◌, drop}
use Rattle.rept_simlog.specs.Hartlog.Steps.{next_address}
use Rattle.rept_simlog.proofs.hartlog.threads.next_address.Given as goal

abbrev pub invariant-loop-entry : goal.invariant-loop-entry
invariant-loop-entry l = next_address (drop l.entry-index l.entries) l.thread ≡ next_address l.entries l.thread
