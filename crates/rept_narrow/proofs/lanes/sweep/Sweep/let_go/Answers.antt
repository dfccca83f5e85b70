use Rattle.std.proofs.Common.{sym, ◌∙◌}
use Rattle.rept_narrow.proofs.Sweeping.{let_gone, let_ended}
use Rattle.rept_narrow.proofs.lanes.sweep.Sweep.let_go.Goals as goal

pub returns-in-None-clause-holds : goal.returns-in-None-clause-holds
returns-in-None-clause-holds c = rw (← c.self.view_is) (λ memory. let_gone memory c.self.inside.point c.args.address c.self.inside.held c.take.new.self c.self.inside.spans.items c.take.ensures.rest)

pub returns-in_ok-push-in-Some-clause-holds : goal.returns-in_ok-push-in-Some-clause-holds
returns-in_ok-push-in-Some-clause-holds c = rw (← c.self.view_is) (λ memory. let_ended memory c.self.inside.point c.args.address c.self.inside.held c.take.new.self c.self.inside.spans.items c.push.new.self.items c.in-Some.held c.span_of-span.result c.take.ensures.rest (sym c.take.ensures.held ∙ c.in-Some.is) c.span_of-span.ensures.address c.span_of-span.ensures.value c.span_of-span.ensures.from c.span_of-span.ensures.to c.in_ok-push-in-Some.ensures.items)
