use Rattle.std.proofs.Common.{◌+◌, ◌∙◌, sym, arith}
use Rattle.rept_propagate.proofs.Going.{like_free, like_order, within_min}
use Rattle.rept_propagate.proofs.propagation.carrying.like_along.Goals as goal

pub returns-then-from-stretch-clause-order : goal.returns-then-from-stretch-clause-order
returns-then-from-stretch-clause-order c = let least = c.if-from-stretch.true in like_order c.args.stretch.now.first c.like_unless.result c.args.from c.is_some.result (omega (arith, least)) c.like_unless.ensures

pub returns-then-from-stretch-clause-alike : goal.returns-then-from-stretch-clause-alike
returns-then-from-stretch-clause-alike c = λ f a next w low high. like_free f a c.args.from c.args.stretch.now.first c.like_unless.result c.args.here c.is_some.result c.is_some.ensures c.like_unless.ensures next.free w low high

pub returns-then-is_value-clause-order : goal.returns-then-is_value-clause-order
returns-then-is_value-clause-order c = let from = c.requires.from in let reaches = c.requires.reaches in let last = (within_min c.args.stretch.now.last c.args.end c.min-last.result c.min-last.ensures).2 c.args.from reaches from in omega (arith, last)

pub returns-then-is_value-clause-alike : goal.returns-then-is_value-clause-alike
returns-then-is_value-clause-alike c = λ f a next w low high. let begun = c.if-from-stretch.false in let last = (within_min c.args.stretch.now.last c.args.end c.min-last.result c.min-last.ensures).0 in next.run.value w (omega (arith, begun, low)) (omega (arith, high, last)) ∙ sym (c.is_value.ensures c.if-is_value.true)

pub returns-else-is_value-clause-alike : goal.returns-else-is_value-clause-alike
returns-else-is_value-clause-alike c = λ f a next w low high. absurd (omega (arith, low, high))

pub overflow_add-result : goal.overflow_add-result
overflow_add-result c = let end = c.requires.end in let last = (within_min c.args.stretch.now.last c.args.end c.min-last.result c.min-last.ensures).1 in omega (arith, end, last)
