use Rattle.std.proofs.Common.{◌≡◌, ◌<◌, ℕ, Some, slice_get}
use Rattle.rept_narrow.specs.declared.lanes.held.Held.{Held}
use Rattle.rept_narrow.specs.Lanes.{held_at, IsTrueSweep}
use Rattle.rept_narrow.proofs.lanes.sweep.Sweep.let_all_go.Given as goal

abbrev pub invariant-loop-index : goal.invariant-loop-index
invariant-loop-index l = record {
  point : l.self.point ≡ l.fn.self.point;
  holds : (memory : ℕ → ℕ → ℕ) → IsTrueSweep memory l.fn.self → IsTrueSweep memory l.self;
  rest : (a : ℕ) (h : Held) → held_at l.self.held a ≡ Some h → (held_at l.fn.self.held a ≡ Some h) × ((k : ℕ) → k < l.index → slice_get l.list k ≡ Some a → ⊥);
}
