use Rattle.std.proofs.Common.{◌≡◌, ◌++◌, take}
use Rattle.rept_streams.proofs.runs.calls.add_rows.Given as goal

abbrev pub invariant-loop-row : goal.invariant-loop-row
invariant-loop-row l = l.steps ≡ l.fn.steps ++ take l.row-index l.rows
