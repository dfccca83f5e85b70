use Rattle.std.proofs.Common.{IsSome, drop}
use Rattle.std.specs.List.{All}
use Rattle.rept_moments.specs.Courses.{seen_in}
use Rattle.tables_of_runs.proofs.moments.are_rows.Given as goal

-- those that are left decide
abbrev pub invariant-loop-row : goal.invariant-loop-row
invariant-loop-row l = All (λ i. IsSome ((seen_in l.ways).legs.row i)) (drop l.row-index l.rows) → All (λ i. IsSome ((seen_in l.ways).legs.row i)) l.rows
