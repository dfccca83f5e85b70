use Rattle.std.proofs.Common.{List, Option, Some, sym, subst, rules}
use Rattle.rept_moments.specs.Courses.{seen_in}
use Rattle.rept_extents.specs.declared.hulls.Bounds.{Bounds}
use Rattle.rept_extents.specs.Tables.{AreEach, NextsLieIn}
use Rattle.rept_extents.proofs.Going.{each_more}
use Rattle.rept_extents.proofs.reaches.all_nexts.Goals as goal

pub loop-number-preserved : goal.loop-number-preserved
loop-number-preserved c = record {
  count = search rules;
  each = subst (λ (xs : List (Option Bounds)). AreEach (NextsLieIn (seen_in c.args.ways.now).moments) xs) (sym c.in_ok-push.ensures.items) (each_more (NextsLieIn (seen_in c.args.ways.now).moments) c.loop-number.list.items c.loop-number.number c.nexts_of.result c.loop-number.invariant.count c.loop-number.invariant.each c.nexts_of.ensures);
}
