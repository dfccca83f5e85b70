use Rattle.rept_extents.specs.declared.hulls.Bounds.{Bounds}
use Rattle.rept_extents.specs.Hulls.{LiesIn, LieIn}
use Rattle.rept_extents.proofs.hulls.block_of.Given as goal

abbrev pub invariant-loop-number : goal.invariant-loop-number
invariant-loop-number l = (outer : Bounds) → LiesIn l.hull outer → LieIn l.list (record { from = l.from; to = l.number; outer = outer })
