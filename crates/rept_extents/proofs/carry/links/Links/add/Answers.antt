use Rattle.rept_extents.proofs.CarryLemmas.Linking.{pair_added}
use Rattle.rept_extents.proofs.carry.links.Links.add.Goals as goal

pub returns-clause-adds : goal.returns-clause-adds
returns-clause-adds c = pair_added c.args.from c.args.to c.args.self.now (record { onward = c.add_at.new.lists; back = c.add_at-2.new.lists }) c.in_ok-add_at.ensures.adds c.in_ok-add_at-2.ensures.adds
