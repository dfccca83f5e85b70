use Rattle.std.proofs.Common.{Option, sym, ap, ◌∙◌}
use Rattle.rept_isa.specs.declared.row.StepRow.{StepRow}
use Rattle.rept_isa.specs.Operands.{is_call}
use Rattle.rept_facts.specs.Counts.{row_is}
use Rattle.rept_analysis.proofs.analysis.Analysis.is_call_row.Goals as goal

pub returns-in-None : goal.returns-in-None
returns-in-None g c = sym (ap (λ (o : Option StepRow). row_is o is_call) (sym c.row.ensures.row ∙ c.in-None.is))

pub returns-in-Some : goal.returns-in-Some
returns-in-Some g c = c.is_call.ensures ∙ sym (ap (λ (o : Option StepRow). row_is o is_call) (sym c.row.ensures.row ∙ c.in-Some.is))
