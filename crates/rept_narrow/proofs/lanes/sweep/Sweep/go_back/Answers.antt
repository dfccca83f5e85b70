use Rattle.std.proofs.Common.{◌<◌, sym, subst}
use Rattle.rept_narrow.specs.Lanes.{SweepView}
use Rattle.rept_narrow.proofs.Sweeping.{gone_back}
use Rattle.rept_narrow.proofs.lanes.sweep.Sweep.go_back.Goals as goal

pub returns-clause-holds : goal.returns-clause-holds
returns-clause-holds c =
    let some : 0 < c.self.inside.point = subst (λ (x : SweepView). 0 < x.point) (sym c.self.view_is) c.requires in
    rw (← c.self.view_is) (λ memory. gone_back memory c.self.inside.held c.self.inside.spans.items c.self.inside.point some)
