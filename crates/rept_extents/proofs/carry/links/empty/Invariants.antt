use Rattle.rept_extents.specs.Carry.Links.{HasNoLinks}
use Rattle.rept_extents.proofs.carry.links.empty.Given as goal

abbrev pub invariant-loop-list : goal.invariant-loop-list
invariant-loop-list l = HasNoLinks l._list l.lists.items
