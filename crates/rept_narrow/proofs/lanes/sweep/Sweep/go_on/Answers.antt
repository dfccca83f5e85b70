use Rattle.rept_narrow.proofs.Sweeping.{gone_on}
use Rattle.rept_narrow.proofs.lanes.sweep.Sweep.go_on.Goals as goal

pub returns-clause-holds : goal.returns-clause-holds
returns-clause-holds c = rw (← c.self.view_is) (λ memory. gone_on memory c.self.inside.held c.self.inside.spans.items c.self.inside.point)
