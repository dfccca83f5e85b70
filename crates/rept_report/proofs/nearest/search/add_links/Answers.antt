use Rattle.std.proofs.Common.{arith}
use Rattle.rept_report.proofs.NearestLemmas.Searching.{below_more}
use Rattle.rept_report.proofs.nearest.search.add_links.Goals as goal

pub loop-least-preserved : goal.loop-least-preserved
loop-least-preserved g c =
    let L = g.N.Net.links c.args.net.now in
    let early = g.met.N.Net.inside c.args.net.now c.args.number c.in-Some.linked c.in-Some.ensures.0 in
    let last = c.loop-least.invariant.last in
    record {
      below = below_more L c.args.reach.now c.loop-least.reach c.add.new.self c.args.number c.loop-least.least c.in-Some.linked c.in-Some.ensures c.add.ensures c.loop-least.invariant.below;
      last = last;
      near = omega (arith, early, last);
    }
