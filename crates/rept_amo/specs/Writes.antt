-- Whether a row writes all bytes that it may write, and how many byte facts it gives. Which bytes
-- it may write is told by the rules of RV32IM, whose rows of atomic instructions may write what
-- theirs may. This project's own.
use Rattle.std.specs.Prelude.{ℕ, Bool, true, false, ◌==◌, ◌&&◌, not, is_some, Option, Some, None}
use Rattle.rept_isa.specs.declared.instr.AmoOp.{AmoOp}
use Rattle.rept_isa.specs.declared.instr.AmoOp.TheVariants as atomic
use Rattle.rept_isa.specs.declared.row.StepRow.{StepRow}
use Rattle.rept_amo.specs.declared.form.Form.{Form}
use Rattle.rept_reason.specs.declared.view.inferred.When.TheVariants.{Before, After}
use Rattle.rept_reason.specs.View.Seen.{Seen}
use Rattle.rept_rules.specs.MayWrite as base

-- an SC is known to have succeeded: its answer is 0, in another register than x0
abbrev pub is_zero : Option ℕ → Bool
is_zero None = false
is_zero (Some v) = v == 0

abbrev pub has_succeeded : ℕ → Seen → Bool
has_succeeded rd s = not (rd == 0) && is_zero (s.register After rd)

-- an atomic memory operation always writes; an SC where it succeeded
abbrev pub is_done : AmoOp → ℕ → Seen → Bool
is_done atomic.Lr rd s = false
is_done atomic.Sc rd s = has_succeeded rd s
is_done atomic.Swap rd s = true
is_done atomic.Add rd s = true
is_done atomic.Xor rd s = true
is_done atomic.And rd s = true
is_done atomic.Or rd s = true
is_done atomic.Min rd s = true
is_done atomic.Max rd s = true
is_done atomic.Minu rd s = true
is_done atomic.Maxu rd s = true

abbrev pub form_is_sure : Option Form → StepRow → Seen → Bool
form_is_sure None row s = base.instr_is_sure row.instr s
form_is_sure (Some form) row s = base.is_register form.rs1 && is_some (s.register Before form.rs1) && is_done form.op form.rd s

-- the bytes before and after an atomic memory operation, those before an LR, and those after an SC
abbrev pub places_by : AmoOp → ℕ
places_by atomic.Lr = 4
places_by atomic.Sc = 4
places_by atomic.Swap = 8
places_by atomic.Add = 8
places_by atomic.Xor = 8
places_by atomic.And = 8
places_by atomic.Or = 8
places_by atomic.Min = 8
places_by atomic.Max = 8
places_by atomic.Minu = 8
places_by atomic.Maxu = 8

abbrev pub places_of : Option Form → StepRow → ℕ
places_of None row = base.places_of row.instr
places_of (Some form) row = places_by form.op
