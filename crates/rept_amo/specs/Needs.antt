-- What a conclusion of a row of an atomic instruction rests on, in the rule's order: the address
-- first, then the row's registers, then bytes by rising offset; each once; x0 is left out, since it
-- is known without any fact. This project's own.
use Rattle.std.specs.Prelude.{ℕ, ◌==◌, if◌then◌else◌, Option, Some, None, List, [], ◌++◌}
use Rattle.rept_isa.specs.declared.instr.AmoOp.{AmoOp}
use Rattle.rept_isa.specs.declared.instr.AmoOp.TheVariants as atomic
use Rattle.rept_isa.specs.declared.row.StepRow.{StepRow}
use Rattle.rept_partial.specs.declared.flat.Flat.{Flat}
use Rattle.rept_partial.specs.declared.flat.Flat.TheVariants.{Unknown, Known}
use Rattle.rept_reason.specs.declared.view.inferred.When.TheVariants.{Before, After}
use Rattle.rept_reason.specs.declared.view.inferred.Conclusion.{Conclusion}
use Rattle.rept_reason.specs.declared.view.inferred.Premise.{Premise}
use Rattle.rept_reason.specs.View.Seen.{Seen}
use Rattle.rept_rules.specs.Listing.{known_at}
use Rattle.rept_rules.specs.Needs.{register_need, both_needs, byte_needs, needs_of}
use Rattle.rept_amo.specs.declared.form.Form.{Form}
use Rattle.rept_amo.specs.declared.form.AtomicAccess.{AtomicAccess}

-- the source of a swap (22) rests on the word after it, that of an ADD or XOR on the words before
-- and after it
abbrev pub source_needs : AmoOp → ℕ → List Premise
source_needs atomic.Swap base = byte_needs After base 4
source_needs atomic.Lr base = byte_needs Before base 4 ++ byte_needs After base 4
source_needs atomic.Sc base = byte_needs Before base 4 ++ byte_needs After base 4
source_needs atomic.Add base = byte_needs Before base 4 ++ byte_needs After base 4
source_needs atomic.Xor base = byte_needs Before base 4 ++ byte_needs After base 4
source_needs atomic.And base = byte_needs Before base 4 ++ byte_needs After base 4
source_needs atomic.Or base = byte_needs Before base 4 ++ byte_needs After base 4
source_needs atomic.Min base = byte_needs Before base 4 ++ byte_needs After base 4
source_needs atomic.Max base = byte_needs Before base 4 ++ byte_needs After base 4
source_needs atomic.Minu base = byte_needs Before base 4 ++ byte_needs After base 4
source_needs atomic.Maxu base = byte_needs Before base 4 ++ byte_needs After base 4

abbrev pub access_needs : AtomicAccess → ℕ → List Premise
access_needs x rule =
    if rule == 19 then register_need Before x.form.rs1 ++ byte_needs Before x.base 4
    else if rule == 20 then both_needs x.form.rs1 x.form.rs2 ++ byte_needs Before x.base 4
    else if rule == 21 then register_need Before x.form.rs1 ++ register_need After x.form.rd
    else if rule == 22 then register_need Before x.form.rs1 ++ source_needs x.form.op x.base
    else if rule == 23 then both_needs x.form.rs1 x.form.rs2 ++ byte_needs After x.base 4
    else both_needs x.form.rs1 x.form.rs2 ++ register_need After x.form.rd

abbrev pub needs_at : Form → Flat → ℕ → List Premise
needs_at form Unknown rule = []
needs_at form (Known b) rule = access_needs (record { form = form; base = b }) rule

-- a conclusion of a row of another instruction rests on what it does by the rules of RV32IM
abbrev pub needs_by : Option Form → StepRow → Seen → Conclusion → List Premise
needs_by None row s d = needs_of row.instr s d
needs_by (Some form) row s d = needs_at form (known_at s Before form.rs1) d.rule
