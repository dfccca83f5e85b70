use Rattle.std.proofs.Common.{◌≡◌, ◌+◌, ◌≤◌, length}
use Rattle.rept_simlog.proofs.Reading.{ReadTo}
use Rattle.rept_simlog.proofs.lines.entries_of.Given as goal

abbrev pub invariant-loop-rest : goal.invariant-loop-rest
invariant-loop-rest g l = record {
  read : ReadTo g.E.LogEntry.tells l.log l.entries.items l.rest;
  number : l.number ≡ length l.entries.items;
  few : l.number + length l.rest ≤ length l.log;
}

abbrev pub decreases-loop-rest : goal.decreases-loop-rest
decreases-loop-rest g l = length l.rest
