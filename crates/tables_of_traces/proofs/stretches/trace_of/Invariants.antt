use Rattle.std.specs.List.{All}
use Rattle.rept_encode.specs.Walkable.{IsWalkable}
use Rattle.tables_of_traces.proofs.stretches.trace_of.Given as goal

abbrev pub invariant-loop-number : goal.invariant-loop-number
invariant-loop-number l = All (All (λ s. IsWalkable l.halves s.steps)) l.all
