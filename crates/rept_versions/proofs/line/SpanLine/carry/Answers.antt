use Rattle.std.proofs.Common.{sym, ◌∙◌}
use Rattle.std.proofs.lemmas.Option.{none-some}
use Rattle.rept_versions.proofs.Lines.{value_misses}
use Rattle.rept_versions.proofs.line.SpanLine.carry.Goals as goal

pub returns-in-Err-clause-moves : goal.returns-in-Err-clause-moves
returns-in-Err-clause-moves c v e = absurd (none-some v (sym (value_misses _ _ _ c.in-Err.ensures.place) ∙ e))
