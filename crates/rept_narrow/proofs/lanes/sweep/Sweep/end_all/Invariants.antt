use Rattle.std.proofs.Common.{ℕ}
use Rattle.rept_narrow.specs.Lanes.{IsTrueSweep}
use Rattle.rept_narrow.proofs.lanes.sweep.Sweep.end_all.Given as goal

abbrev pub invariant-loop-index : goal.invariant-loop-index
invariant-loop-index l = (memory : ℕ → ℕ → ℕ) → IsTrueSweep memory l.fn.self → IsTrueSweep memory l.self
