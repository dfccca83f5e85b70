use Rattle.std.proofs.Common.{◌≡◌, ◌++◌, ◌∷◌, [], length, slice_index_or}
use Rattle.rept_extents.specs.Hulls.{AreLevels}
use Rattle.rept_extents.proofs.hulls.levels_of.Given as goal

abbrev pub invariant-loop-alloc : goal.invariant-loop-alloc
invariant-loop-alloc l = record {
  list : slice_index_or (l.levels.items ++ l.hulls.items ∷ []) 0 [] ≡ l.fn.list.items;
  levels : AreLevels (l.levels.items ++ l.hulls.items ∷ []) l.fn.list.items;
}

abbrev pub decreases-loop-alloc : goal.decreases-loop-alloc
decreases-loop-alloc l = length l.hulls.items
