use Rattle.std.proofs.Common.{ℕ, List, subst}
use Rattle.rept_extents.specs.Carry.Rising.{AddsOne}
use Rattle.rept_extents.proofs.carry.rising.Rising.add.Goals as goal

pub returns : goal.returns
returns c = subst (λ (xs : List ℕ). AddsOne c.args.number xs c.insert.new.list.items) c.self.view_is c.in_ok-insert.ensures.adds
