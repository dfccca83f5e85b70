use Rattle.rept_narrow.proofs.Sweeping.{also_ended}
use Rattle.rept_narrow.proofs.lanes.sweep.Sweep.end.Goals as goal

pub returns-in_ok-push-in-Some : goal.returns-in_ok-push-in-Some
returns-in_ok-push-in-Some c = rw (← c.self.view_is) (λ memory. also_ended memory c.self.inside.point c.in-Some.address c.self.inside.held c.self.inside.spans.items c.push.new.self.items c.in-Some.held c.span_of-span.result c.in-Some.ensures.value c.span_of-span.ensures.address c.span_of-span.ensures.value c.span_of-span.ensures.from c.span_of-span.ensures.to c.in_ok-push-in-Some.ensures.items)
