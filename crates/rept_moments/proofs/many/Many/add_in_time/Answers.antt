use Rattle.std.proofs.lemmas.Result.{on_ok_weaker}
use Rattle.std.proofs.Common.{◌∷◌, []}
use Rattle.rept_moments.specs.Nexts.{offers_at, Member}
use Rattle.std.proofs.Common.{Some}
use Rattle.rept_moments.proofs.Adding.{adds_same, adds_none, in_time_then, in_time_else}
use Rattle.rept_moments.proofs.many.Many.add_in_time.Goals as goal

pub returns-then-is_not_past : goal.returns-then-is_not_past
returns-then-is_not_past c =
    on_ok_weaker c.add_other.result
    (λ its. adds_same c.args.own (c.name.result ∷ []) (offers_at c.args.self.now c.args.last (Some c.args.side)) c.args.list.now.items c.add_other.new.list.items
    (in_time_then c.args.self.now c.args.last c.args.side c.begin-begin.result c.name.result c.is_not_past.result c.begin-begin.ensures c.name.ensures c.is_not_past.ensures c.if-is_not_past.true) its)
    c.add_other.ensures

pub returns-else-is_not_past : goal.returns-else-is_not_past
returns-else-is_not_past c =
    adds_same c.args.own [] (offers_at c.args.self.now c.args.last (Some c.args.side)) c.args.list.now.items c.args.list.now.items
    (in_time_else c.args.self.now c.args.last c.args.side c.begin-begin.result c.is_not_past.result c.begin-begin.ensures c.is_not_past.ensures c.if-is_not_past.false)
    (adds_none c.args.own (Member []) c.args.list.now.items (λ v h. h))
