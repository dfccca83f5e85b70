use Rattle.std.proofs.Common.{sym, arith}
use Rattle.rept_versions.proofs.Firsts.{first_none, value_first, value_gap}
use Rattle.rept_versions.proofs.line.SpanLine.value_at.Goals as goal

pub returns-then-f-k : goal.returns-then-f-k
returns-then-f-k c = value_first _ c.in-Some.ensures.rising _ _ _ c.in-Some.ensures.first c.if-f-k.true

pub returns-in-None : goal.returns-in-None
returns-in-None c = sym (first_none _ _ c.in-None.ensures.first _ (omega arith))

pub returns-else-f-k : goal.returns-else-f-k
returns-else-f-k c = value_gap _ c.in-Some.ensures.rising _ _ _ c.in-Some.ensures.first (omega (arith, c.if-f-k.false))
