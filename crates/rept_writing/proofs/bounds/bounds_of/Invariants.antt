use Rattle.std.proofs.Common.{◌<◌, ◌≤◌}
use Rattle.rept_writing.specs.Bounded.{AreInBounds}
use Rattle.rept_writing.proofs.bounds.bounds_of.Given as goal

abbrev pub invariant-loop-m : goal.invariant-loop-m
invariant-loop-m l = AreInBounds l.list l.wide (λ p. (l.fn.start ≤ p) × (p < l.m)) l.bounds
