-- What a row of RV32IMA lets one conclude of the values before and after it. The conclusions are
-- this project's own; what the instructions do is in the RISC-V unprivileged manual 20191213.
use Rattle.std.specs.Prelude.{Option, Some, None}
use Rattle.rept_isa.specs.declared.row.StepRow.{StepRow}
use Rattle.rept_reason.specs.declared.view.inferred.Conclusion.{Conclusion}
use Rattle.rept_reason.specs.View.Seen.{Seen}
use Rattle.rept_rules.specs.Conclusions.{ConcludesByRow as ConcludesByBase}
use Rattle.rept_amo.specs.declared.form.Form.{Form}
use Rattle.rept_amo.specs.Conclusions.{AtomicConcludes, form_of}

-- by a case of the relation of atomic instructions, where it is one, and else by a case of that of
-- RV32IM
abbrev pub ConcludesBy : Option Form → StepRow → Seen → Conclusion → Type 0
ConcludesBy None row s d = ConcludesByBase row s d
ConcludesBy (Some form) row s d = AtomicConcludes row s d

abbrev pub RowConcludes : StepRow → Seen → Conclusion → Type 0
RowConcludes row s d = ConcludesBy (form_of row.instr) row s d
