-- The list of a row's conclusions has exactly those of its relation.
use Rattle.std.proofs.Common.{◌≡◌, ◌↔◌, Option, Some, None, refl}
use Rattle.std.specs.List.{Contains}
use Rattle.rept_isa.specs.declared.row.StepRow.{StepRow}
use Rattle.rept_reason.specs.declared.view.inferred.Conclusion.{Conclusion}
use Rattle.rept_reason.specs.View.Seen.{Seen}
use Rattle.rept_rules.specs.Laws.Listed.{listed as base_listed, concluded as base_concluded}
use Rattle.rept_amo.specs.declared.form.Form.{Form}
use Rattle.rept_amo.specs.Conclusions.{form_of}
use Rattle.rept_amo.specs.Listing.{inferred_of}
use Rattle.rept_amo.specs.Atomic.{atomic_rules}
use Rattle.rept_amo.specs.Rows.{ConcludesBy, RowConcludes}
use Rattle.rept_amo.specs.Laws.Listed.{listed, concluded}

by_form : (row : StepRow) (s : Seen) (d : Conclusion) (o : Option Form) → form_of row.instr ≡ o → Contains (inferred_of o row s) d ↔ ConcludesBy o row s d
by_form row s d None is = (λ has. base_listed row s d has, λ says. base_concluded row s d says)
by_form row s d (Some form) is = (λ has. listed row s d form is has, λ says. concluded row s d form is says)

pub row_concludes : (row : StepRow) (s : Seen) (d : Conclusion) → Contains (atomic_rules.infer row s) d ↔ RowConcludes row s d
row_concludes row s d = by_form row s d (form_of row.instr) refl
