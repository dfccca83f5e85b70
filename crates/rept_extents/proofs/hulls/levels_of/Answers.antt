use Rattle.std.proofs.Common.{◌≡◌, ◌++◌, ◌∷◌, [], List, Option, slice_index_or, sym, subst}
use Rattle.rept_extents.specs.declared.hulls.Bounds.{Bounds}
use Rattle.rept_extents.specs.Hulls.{AreBlocks, AreLevels}
use Rattle.rept_extents.proofs.Bounds.{level_more, first_stays}
use Rattle.rept_extents.proofs.hulls.levels_of.Goals as goal

pub loop-alloc-preserved : goal.loop-alloc-preserved
loop-alloc-preserved c =
    let levels : List (List (Option Bounds)) = c.loop-alloc.levels.items in
    let hulls : List (Option Bounds) = c.loop-alloc.hulls.items in
    let next : List (Option Bounds) = c.in_ok-next.next.items in
    let list : List (Option Bounds) = c.args.list.items in
    let wide : AreBlocks 4 next hulls = subst (λ (xs : List (Option Bounds)). AreBlocks 4 next xs) c.deref.ensures.value c.in_ok-next.ensures.blocks in
    let pushed = sym c.in_ok-push.ensures.items in
    record {
      list = subst (λ (xs : List (List (Option Bounds))). slice_index_or (xs ++ next ∷ []) 0 [] ≡ list) pushed (first_stays levels hulls next list wide c.loop-alloc.invariant.levels c.loop-alloc.invariant.list);
      levels = subst (λ (xs : List (List (Option Bounds))). AreLevels (xs ++ next ∷ []) list) pushed (level_more levels hulls next list wide c.loop-alloc.invariant.levels);
    }
