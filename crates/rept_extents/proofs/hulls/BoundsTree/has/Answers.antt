use Rattle.std.proofs.Common.{List, Option, [], None, slice_index_or, subst}
use Rattle.rept_extents.specs.declared.hulls.Bounds.{Bounds}
use Rattle.rept_extents.specs.Hulls.{LiesIn, AreLevels}
use Rattle.rept_extents.proofs.Bounds.{of_level}
use Rattle.rept_extents.proofs.hulls.BoundsTree.has.Goals as goal

pub returns-in-Some : goal.returns-in-Some
returns-in-Some c = λ yes.
    let known : AreLevels c.self.inside.levels.items c.args.self.now = subst (λ (xs : List (Option Bounds)). AreLevels c.self.inside.levels.items xs) c.self.view_is c.self.invariant in
    let read = (c.in-Some.ensures.lookup).3.1 [] in
    let lies : LiesIn (slice_index_or (slice_index_or c.deref.result.now c.args.block.level []) c.args.block.index None) c.args.outer = subst (λ (xs : List (Option Bounds)). LiesIn (slice_index_or xs c.args.block.index None) c.args.outer) read (c.has.ensures yes) in
    let there = subst (λ (xs : List (List (Option Bounds))). LiesIn (slice_index_or (slice_index_or xs c.args.block.level []) c.args.block.index None) c.args.outer) c.deref.ensures.value lies in
    of_level c.self.inside.levels.items c.args.self.now c.args.block.level c.args.block.index c.args.block.size c.args.block.from c.args.outer known c.args.block.sized c.args.block.begins there
