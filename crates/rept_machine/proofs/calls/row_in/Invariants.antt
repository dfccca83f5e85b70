use Rattle.std.proofs.Common.{◌≡◌, drop}
use Rattle.rept_machine.specs.Calls.{call_of}
use Rattle.rept_machine.proofs.calls.row_in.Given as goal

-- the rows that are left decide
abbrev pub invariant-loop-row : goal.invariant-loop-row
invariant-loop-row l = call_of l.rows l.number ≡ call_of (drop l.row-index l.rows) l.number
