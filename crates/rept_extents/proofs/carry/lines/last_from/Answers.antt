use Rattle.std.proofs.Common.{arith}
use Rattle.rept_moments.specs.Courses.{seen_in}
use Rattle.rept_extents.proofs.CarryLemmas.Lining.{run_longer}
use Rattle.rept_extents.proofs.carry.lines.last_from.Goals as goal

pub loop-last-preserved : goal.loop-last-preserved
loop-last-preserved c =
    let less = c.loop-last-test.true in
    let up = c.loop-last.invariant.up in
    record {
      up = omega (arith, up);
      inside = omega (arith, less);
      joined = run_longer (seen_in c.args.ways.now).moments c.args.first c.loop-last.last c.loop-last.invariant.joined (c.is_joined.ensures.yes c.if-not-is_joined.false);
    }
