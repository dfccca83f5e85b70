use Rattle.std.proofs.Common.{◌≡◌, ◌++◌, ℕ, take, drop}
use Rattle.rept_steps.specs.Linked.{EndBefore}
use Rattle.rept_streams.specs.Threads.Linking.{GoesFromTo}
use Rattle.rept_streams.proofs.threads.joins.add_rows.Given as goal

abbrev pub invariant-loop-row : goal.invariant-loop-row
invariant-loop-row l = (l.steps ≡ l.fn.steps ++ take l.row-index l.rows) × ((a b : ℕ) → EndBefore l.fn.steps a → GoesFromTo l.rows a b → (c : ℕ) × EndBefore l.steps c × GoesFromTo (drop l.row-index l.rows) c b)
