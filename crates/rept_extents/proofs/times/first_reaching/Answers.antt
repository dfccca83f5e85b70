use Rattle.rept_extents.proofs.Coming.{all_before}
use Rattle.rept_extents.proofs.times.first_reaching.Goals as goal

pub returns : goal.returns
returns c = all_before c.args.many.now c.args.ends.now c.args.time c.count_to.result c.requires.times c.count_to.ensures.few c.count_to.ensures.last
