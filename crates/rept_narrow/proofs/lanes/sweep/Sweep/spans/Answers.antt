use Rattle.std.proofs.Common.{sym, subst}
use Rattle.rept_narrow.specs.Lanes.{SweepView, IsTrueSweep}
use Rattle.rept_narrow.proofs.lanes.sweep.Sweep.spans.Goals as goal

pub returns : goal.returns
returns c = λ memory t. (subst (λ (x : SweepView). IsTrueSweep memory x) (sym c.sweep.view_is) (c.in_ok-end_all.ensures memory t)).spans
