use Rattle.std.proofs.Common.{arith}
use Rattle.rept_report.proofs.NearestLemmas.Reaching.{still_there}
use Rattle.rept_report.proofs.NearestLemmas.Searching.{up_to_more, up_to_all}
use Rattle.rept_report.proofs.nearest.search.add_beside.Goals as goal

pub add_links-requires-clause-number : goal.add_links-requires-clause-number
add_links-requires-clause-number g c =
    let test = c.loop-k-test.true in
    let end = c.loop-k.invariant.end in
    c.requires.within c.loop-k.k c.at-number.result (still_there c.args.reach.now c.loop-k.reach c.loop-k.invariant.up_to.grows c.loop-k.k c.at-number.result (omega (arith, test, end)) c.at-number.ensures)

pub loop-k-preserved : goal.loop-k-preserved
loop-k-preserved g c =
    let L = g.N.Net.links c.args.net.now in
    let test = c.loop-k-test.true in
    let end = c.loop-k.invariant.end in
    let at = still_there c.args.reach.now c.loop-k.reach c.loop-k.invariant.up_to.grows c.loop-k.k c.at-number.result (omega (arith, test, end)) c.at-number.ensures in
    record { up_to = up_to_more L c.args.reach.now c.loop-k.reach c.add_links.new.reach c.args.start c.loop-k.k c.at-number.result at c.loop-k.invariant.up_to c.add_links.ensures; end = end }

pub returns : goal.returns
returns g c =
    let test = c.loop-k-test.false in
    let end = c.loop-k.invariant.end in
    up_to_all (g.N.Net.links c.args.net.now) c.args.reach.now c.loop-k.reach c.args.start c.loop-k.k (omega (arith, test, end)) c.loop-k.invariant.up_to
