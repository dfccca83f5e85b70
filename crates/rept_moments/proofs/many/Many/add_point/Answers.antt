use Rattle.std.proofs.Common.{[], ◌-◌, ℕ, sym, subst}
use Rattle.std.proofs.lemmas.Result.{on_ok_weaker}
use Rattle.rept_moments.specs.Nexts.{merged_nexts, point_nexts, Member, AddsOthers}
use Rattle.rept_moments.proofs.Adding.{adds_same, adds_none, point_more}
use Rattle.rept_moments.proofs.many.Many.add_point.Goals as goal

pub returns-then-point-eq0 : goal.returns-then-point-eq0
returns-then-point-eq0 c = subst (λ (p : ℕ). AddsOthers c.args.own (Member (point_nexts c.args.self.now p)) c.args.list.now.items c.args.list.now.items) (sym c.if-point-eq0.true) (adds_none c.args.own (Member []) c.args.list.now.items (λ v h. h))

pub returns-else-point-eq0 : goal.returns-else-point-eq0
returns-else-point-eq0 c =
    on_ok_weaker c.add_merged.result
    (λ its. adds_same c.args.own (merged_nexts c.args.self.now (c.args.point - 1)) (point_nexts c.args.self.now c.args.point) c.args.list.now.items c.add_merged.new.list.items
    (point_more c.args.self.now c.args.point c.if-point-eq0.false) its)
    c.add_merged.ensures
