use Rattle.std.proofs.Common.{sym, ap, ◌∙◌, Some, refl}
use Rattle.rept_versions.proofs.Lines.{value_lies, value_misses}
use Rattle.rept_versions.proofs.line.SpanLine.put.Goals as goal

pub returns-then-s-value-clause-put : goal.returns-then-s-value-clause-put
returns-then-s-value-clause-put c = (refl, value_lies _ c.in-Ok.ensures.rising _ _ c.in-Ok.ensures.place ∙ ap Some (sym (ap (λ s. s.value) c.at-s.ensures.span) ∙ c.if-s-value.true))

pub returns-else-s-value-clause-put : goal.returns-else-s-value-clause-put
returns-else-s-value-clause-put c = (refl, value_lies _ c.in-Ok.ensures.rising _ _ c.in-Ok.ensures.place ∙ ap Some (sym (ap (λ s. s.value) c.at-s.ensures.span)), c.if-s-value.false)

pub returns-else-put_at-clause-put : goal.returns-else-put_at-clause-put
returns-else-put_at-clause-put c = (c.if-put_at.ensures.added.0, value_misses _ _ _ c.in-Err.ensures.place, c.if-put_at.ensures.added.1)
