use Rattle.std.proofs.Common.{ap, ◌∙◌}
use Rattle.rept_steps.specs.Course.{Course}
use Rattle.rept_order.specs.Times.{begin_of}
use Rattle.rept_moments.specs.Ordering.{event_at}
use Rattle.rept_moments.proofs.Places.{below_in}
use Rattle.rept_moments.proofs.many.Many.begin.Goals as goal

pub begin-requires : goal.begin-requires
begin-requires c = below_in c.self.inside.points c.args.self.now c.args.side.point c.self.view_is c.requires

pub returns : goal.returns
returns c = c.begin.ensures ∙ ap (λ (D : Course). begin_of D (event_at D c.args.side)) c.self.view_is
