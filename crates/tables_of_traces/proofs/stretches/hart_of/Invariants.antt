use Rattle.std.specs.List.{All}
use Rattle.rept_encode.specs.Walkable.{IsWalkable}
use Rattle.tables_of_traces.proofs.stretches.hart_of.Given as goal

abbrev pub invariant-loop-line : goal.invariant-loop-line
invariant-loop-line l = All (λ s. IsWalkable l.halves s.steps) l.hart
