-- The rules of RV32IMA as one record of functions.
use Rattle.rept_reason.specs.View.Rules.{Rules}
use Rattle.rept_rules.specs.MayWrite.{instr_may_write, tells_writes}
use Rattle.rept_amo.specs.Conclusions.{form_of}
use Rattle.rept_amo.specs.Listing.{inferred_of}
use Rattle.rept_amo.specs.Needs.{needs_by}
use Rattle.rept_amo.specs.Writes.{form_is_sure, places_of}

abbrev pub atomic_rules : Rules
atomic_rules = record { infer = λ row s. inferred_of (form_of row.instr) row s; needs = λ row s d. needs_by (form_of row.instr) row s d; touched = λ row s image_end a. instr_may_write row.instr s image_end a; tells = λ row. tells_writes row.instr; sure = λ row s. form_is_sure (form_of row.instr) row s; places = λ row. places_of (form_of row.instr) row }
