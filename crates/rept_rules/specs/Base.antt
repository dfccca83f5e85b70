-- The rules of RV32IM as one record of functions.
use Rattle.rept_reason.specs.View.Rules.{Rules}
use Rattle.rept_rules.specs.Listing.{conclusions}
use Rattle.rept_rules.specs.Needs.{needs_of}
use Rattle.rept_rules.specs.MayWrite.{instr_may_write, tells_writes, instr_is_sure, places_of}

abbrev pub base_rules : Rules
base_rules = record { infer = conclusions; needs = λ row s d. needs_of row.instr s d; touched = λ row s image_end a. instr_may_write row.instr s image_end a; tells = λ row. tells_writes row.instr; sure = λ row s. instr_is_sure row.instr s; places = λ row. places_of row.instr }
