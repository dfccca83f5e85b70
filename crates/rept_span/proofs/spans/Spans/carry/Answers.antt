use Rattle.std.proofs.Common.{◌≡◌, ◌+◌, ◌-◌, ◌*◌, length, sym, refl, ◌∙◌, arith}
use Rattle.rept_span.proofs.Carrying.{carried_only, carried_here}
use Rattle.rept_span.proofs.spans.Spans.carry.Goals as goal

pub invariant_of-self : goal.invariant_of-self
invariant_of-self g c = sym c.copy_within.new.self.ok.0 ∙ c.copy_within.ensures.len ∙ c.self.inside.items.ok.0 ∙ c.self.invariant

pub returns-clause-only : goal.returns-clause-only
returns-clause-only g c =
    let long : length c.copy_within.new.self.items ≡ length c.self.inside.items.items = sym c.copy_within.new.self.ok.0 ∙ c.copy_within.ensures.len ∙ c.self.inside.items.ok.0 in
    let from = (c.args.point - 1) * 32 in
    let some = c.requires.some in
    carried_only c.args.self.now c.self.inside.points c.self.inside.items.items c.copy_within.new.self.items c.args.point (from + 32) (from + 32 - from) c.self.view_is long (omega arith) (omega arith) c.copy_within.ensures.by_index.1 c.copy_within.ensures.by_index.2

pub returns-clause-carried : goal.returns-clause-carried
returns-clause-carried g c =
    let long : length c.copy_within.new.self.items ≡ length c.self.inside.items.items = sym c.copy_within.new.self.ok.0 ∙ c.copy_within.ensures.len ∙ c.self.inside.items.ok.0 in
    let from = (c.args.point - 1) * 32 in
    let some = c.requires.some in
    carried_here c.args.self.now c.self.inside.points c.self.inside.items.items c.copy_within.new.self.items c.args.point from (from + 32) (from + 32 - from) c.self.view_is long c.self.invariant some c.requires.point refl (omega arith) (omega arith) c.copy_within.ensures.by_index.0
