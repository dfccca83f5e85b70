use Rattle.rept_extents.proofs.CarryLemmas.Linking.{set_adds_to}
use Rattle.rept_extents.proofs.carry.links.add_at.Goals as goal

pub returns-clause-adds : goal.returns-clause-adds
returns-clause-adds c = set_adds_to c.args.lists.now.items c.args.at c.args.number c.requires c.index_mut-list.result.now c.add.new.self c.index_mut-list.ensures.value c.in_ok-add.ensures
