use Rattle.rept_report.proofs.NearestLemmas.Searching.{added_ball}
use Rattle.rept_report.proofs.nearest.search.nearest.Goals as goal

pub search-requires-clause-ball : goal.search-requires-clause-ball
search-requires-clause-ball g c = added_ball (g.N.Net.links c.args.net.now) c.args.from c.in_ok-reach.reach c.add.new.self c.requires.from c.in_ok-reach.ensures.none c.add.ensures
