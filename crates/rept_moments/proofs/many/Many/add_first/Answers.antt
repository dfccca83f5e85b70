use Rattle.std.proofs.Common.{Option, subst, sym}
use Rattle.std.proofs.lemmas.Result.{on_ok_weaker}
use Rattle.rept_moments.specs.declared.side.PointSide.{PointSide}
use Rattle.rept_moments.specs.Nexts.{offers_at, AddsOthers, Member}
use Rattle.rept_moments.proofs.many.Many.add_first.Goals as goal

pub returns-in-Some : goal.returns-in-Some
returns-in-Some c = on_ok_weaker c.add_in_time.result (λ its. subst (λ (o : Option PointSide). AddsOthers c.args.own (Member (offers_at c.args.self.now c.args.last o)) c.args.list.now.items c.add_in_time.new.list.items) (sym c.in-Some.is) its) c.add_in_time.ensures
