use Rattle.std.proofs.Common.{[], ◌∷◌}
use Rattle.std.proofs.lemmas.Result.{on_ok_weaker}
use Rattle.rept_moments.specs.Nexts.{first_offer, Member}
use Rattle.rept_moments.proofs.Adding.{adds_same, adds_none, later_then, later_else}
use Rattle.rept_moments.proofs.many.Many.add_later.Goals as goal

pub returns-then-is_first_later : goal.returns-then-is_first_later
returns-then-is_first_later c =
    on_ok_weaker c.add_other.result
    (λ its. adds_same c.args.own (c.name.result ∷ []) (first_offer c.args.self.now c.args.side c.args.first) c.args.list.now.items c.add_other.new.list.items
    (later_then c.args.self.now c.args.side c.args.first c.name.result c.is_first_later.result c.name.ensures c.is_first_later.ensures c.if-is_first_later.true) its)
    c.add_other.ensures

pub returns-else-is_first_later : goal.returns-else-is_first_later
returns-else-is_first_later c =
    adds_same c.args.own [] (first_offer c.args.self.now c.args.side c.args.first) c.args.list.now.items c.args.list.now.items
    (later_else c.args.self.now c.args.side c.args.first c.is_first_later.result c.is_first_later.ensures c.if-is_first_later.false)
    (adds_none c.args.own (Member []) c.args.list.now.items (λ v h. h))
