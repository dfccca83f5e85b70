use Rattle.std.proofs.Common.{◌≡◌, ◌<◌, true}
use Rattle.std.specs.List.{AllAdjacentBelow}
use Rattle.rept_streams.specs.Threads.Turns.{in_turn}
use Rattle.rept_streams.specs.declared.threads.walks.Walked.{Walked}
use Rattle.rept_streams.proofs.threads.walks.stand_in_order.Given as goal

abbrev pub invariant-loop-i : goal.invariant-loop-i
invariant-loop-i l = (0 < l.i) × AllAdjacentBelow (λ (v w : Walked). in_turn v w ≡ true) l.slices l.i
