use Rattle.std.proofs.Common.{ℕ, List, sym, subst}
use Rattle.rept_extents.specs.Carry.Rising.{AddsOne}
use Rattle.rept_extents.proofs.CarryLemmas.Inserting.{inserted}
use Rattle.rept_extents.proofs.carry.rising.insert.Goals as goal

pub returns-in_ok-insert-clause-adds : goal.returns-in_ok-insert-clause-adds
returns-in_ok-insert-clause-adds c = subst (λ (ys : List ℕ). AddsOne c.args.number c.args.list.now.items ys) (sym c.in_ok-insert.ensures.ok) (inserted c.args.list.now.items c.below-place.result c.args.number)
